-- `words::tell::location` meets its contract. The loop's invariant: what is said is what the rest says after the digits read.
use mathlib.Core.Path.{◌≡◌}
use Prim.Native.Nat.{◌≤◌}
use lib.ListN.{drop}
use Rattle.words.specs.Words.{FARTHEST}
use Rattle.words.specs.Inner.Telling.{location_from, location_of}
use Rattle.words.proofs.tell.location.Given as goal

abbrev pub invariant-loop-b : goal.invariant-loop-b
invariant-loop-b l = (l.n ≤ FARTHEST) × (location_of l.w ≡ location_from l.n (drop l.b-index l.w))
