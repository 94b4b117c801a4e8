-- What the search leaves of `reader::search::trail`.
use mathlib.Core.Path.{refl, sym, ◌∙◌}
use native.Mathlib.Omega.{arith}
use Rattle.std.specs.Prelude.{Some}
use Rattle.listing.specs.Bytes.{nodes_of}
use Rattle.listing.proofs.Nodes.{nodes_length}
use Rattle.reader.specs.Inner.Search.{Hunt}
use Rattle.reader.proofs.Hunting.{since_on, ahead_less, hunt_on}
use Rattle.reader.proofs.search.trail.Goals as goal
use Rattle.reader.proofs.search.trail.Goals.{In-Some}

-- where the trail is
here : (c : In-Some) → Hunt (nodes_of c.args.listing.now) c.nodes-n.result c.loop-next.found c.loop-next.waiting (Some c.in-Some.at)
here c = rw c.in-Some.is at c.loop-next.invariant.1

pub second-requires : goal.second-requires
second-requires c = omega (arith, (here (goal.at.second-requires c).In-Some).here c.in-Some.at refl, c.loop-next.invariant.0)

pub first-requires : goal.first-requires
first-requires c = omega (arith, (here (goal.at.first-requires c).In-Some).here c.in-Some.at refl, c.loop-next.invariant.0)

pub loop-next-smaller : goal.loop-next-smaller
loop-next-smaller c = rw c.in-Some.is (ahead_less _ _ _ _ _ _ c.in-Some.at _ _ _ c.nodes-n.ensures.count.1 c.leave.ensures c.step-next.ensures)

pub loop-next-preserved : goal.loop-next-preserved
loop-next-preserved c =
    let listing = c.args.listing.now in
    let few = c.nodes-n.ensures.count in
    let left = rw c.second.ensures at c.leave.ensures in
    let stepped = rw c.first.ensures at c.step-next.ensures in
    let same = few.0 ∙ sym (nodes_length listing) in (
      c.loop-next.invariant.0,
      hunt_on (nodes_of listing) _ few.1 same c.requires.0.home _ _ _ _ _ _ _ (here (goal.at.loop-next-preserved c).In-Some) left stepped,
      since_on _ _ _ _ _ _ _ _ _ _ _ c.loop-next.invariant.2 left stepped,
    )
