-- `reader::search::follow` meets its contract. The loop's invariant: what is found is right but for the links of what is to be followed.
use mathlib.Core.Path.{◌≡◌}
use Prim.Native.Nat.{◌≤◌}
use Rattle.std.specs.Prelude.{None}
use Rattle.listing.specs.Bytes.{count_n, nodes_of}
use Rattle.reader.specs.Inner.Search.{Hunt}
use Rattle.reader.proofs.Hunting.{undone}
use Rattle.reader.proofs.search.follow.Given as goal

abbrev pub invariant-loop-a : goal.invariant-loop-a
invariant-loop-a l = (l.n ≡ count_n l.listing) × (l.n ≤ 128) × Hunt (nodes_of l.listing) l.n l.found l.waiting None

abbrev pub decreases-loop-a : goal.decreases-loop-a
decreases-loop-a l = undone l.found l.waiting l.n
