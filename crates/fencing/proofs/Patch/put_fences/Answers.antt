-- What the search leaves of `fencing::Patch::put_fences`.
use mathlib.Core.Path.{ap, ◌∙◌}
use Prim.Native.Nat.{ℕ, ◌+◌, ◌≤◌, ◌<◌}
use native.Mathlib.Omega.{arith}
use lib.ListN.{length, drop}
use Rattle.listing.specs.Bytes.{record_at, nodes_of}
use Rattle.listing.proofs.Nodes.{nodes_length}
use Rattle.order.specs.Patched.{places}
use Rattle.fencing.specs.Marks.{marks_of}
use Rattle.fencing.proofs.Marks.{marks_length, places_next, places_end}
use Rattle.fencing.proofs.Putting.{fence_put, fences_put}
use Rattle.fencing.proofs.Patch.put_fences.Goals as goal

pub loop-i-preserved : goal.loop-i-preserved
loop-i-preserved c =
    let at = c.loop-i in
    let inv = at.invariant in
    let p = c.put_fence-at in
    let patch = c.args.self.now in
    let nodes = nodes_of patch.listing.now in
    let ms = marks_of patch.map.now in
    let node_in : at.i < length nodes = omega (arith, nodes_length patch.listing.now) in
    let mark_in : at.i < length ms = omega (arith, marks_length patch.map.now, patch.fits.each) in (
      inv.0,
      ap (λ (k : ℕ). k + places (drop (at.i + 1) ms)) p.ensures.0 ∙ places_next ms at.i at.at mark_in ∙ inv.1,
      p.auto.out ∙ inv.2,
      fence_put nodes ms at.i node_in mark_in at.out at.at p.ensures.0 p.ensures.1 inv.3,
    )

pub returns : goal.returns
returns c =
    let at = c.loop-i in
    let patch = c.args.self.now in
    let past : length (nodes_of patch.listing.now) ≤ at.i = omega (arith, nodes_length patch.listing.now) in
    let none_left = places_end patch.map.now at.i (omega (arith, patch.fits.each)) in (
      omega arith,
      fences_put (nodes_of patch.listing.now) (marks_of patch.map.now) (record_at at.at) at.i past at.invariant.3,
    )
