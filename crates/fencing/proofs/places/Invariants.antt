-- `fencing::places`: what is counted, and the places of the marks that are left, are all places.
use mathlib.Core.Path.{◌≡◌}
use Prim.Native.Nat.{◌+◌, ◌≤◌}
use lib.ListN.{length, drop}
use Rattle.order.specs.Patched.{places}
use Rattle.fencing.specs.Marks.{marks_of}
use Rattle.fencing.proofs.places.Given as goal

abbrev pub invariant-loop-byte : goal.invariant-loop-byte
invariant-loop-byte l =
    (l.count ≤ l.byte-index) × (l.count + places (drop l.byte-index (marks_of l.map)) ≡ places (marks_of l.map))
