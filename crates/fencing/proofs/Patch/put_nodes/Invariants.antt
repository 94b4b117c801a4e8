-- `fencing::Patch::put_nodes` meets its contract.
use mathlib.Core.Path.{◌≡◌}
use Prim.Native.Nat.{◌+◌}
use lib.ListN.{length, drop}
use lib.Seq.{sets}
use Rattle.listing.specs.Bytes.{count_n, record_at, nodes_of, nodes_bytes}
use Rattle.order.specs.Patched.{places, kept}
use Rattle.fencing.specs.Marks.{marks_of}
use Rattle.fencing.proofs.Putting.{kept_from}
use Rattle.fencing.proofs.Patch.put_nodes.Given as goal

abbrev pub invariant-loop-i : goal.invariant-loop-i
invariant-loop-i l =
    let s = l.self.listing.now in
    let ms = marks_of l.self.map.now in
    (l.end ≡ count_n s) × (l.fence + places (drop l.i ms) ≡ l.end + places ms) × (length l.out ≡ length l.initial.out)
    × (sets l.out (record_at l.i) (kept_from (nodes_of s) ms l.i l.fence) ≡ sets l.initial.out (record_at 0) (nodes_bytes (kept (count_n s) (nodes_of s) ms)))
