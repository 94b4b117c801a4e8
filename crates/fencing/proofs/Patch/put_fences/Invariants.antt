-- `fencing::Patch::put_fences` meets its contract.
use mathlib.Core.Path.{◌≡◌}
use Prim.Native.Nat.{◌+◌}
use lib.ListN.{length, drop}
use lib.Seq.{sets}
use Rattle.listing.specs.Bytes.{count_n, record_at, nodes_of, nodes_bytes}
use Rattle.order.specs.Patched.{places, fences}
use Rattle.fencing.specs.Marks.{marks_of}
use Rattle.fencing.proofs.Putting.{fences_from}
use Rattle.fencing.proofs.Patch.put_fences.Given as goal

abbrev pub invariant-loop-i : goal.invariant-loop-i
invariant-loop-i l =
    let s = l.self.listing.now in
    let ms = marks_of l.self.map.now in
    (l.nodes ≡ count_n s) × (l.at + places (drop l.i ms) ≡ l.nodes + places ms) × (length l.out ≡ length l.initial.out)
    × (sets l.out (record_at l.at) (fences_from (nodes_of s) ms l.i) ≡ sets l.initial.out (record_at (count_n s)) (nodes_bytes (fences (nodes_of s) ms)))
