-- What the search leaves of `Search::second`.
use mathlib.Core.Path.{ap, ◌∙◌}
use Prim.Native.Nat.{ℕ, ◌<◌}
use Rattle.listing.specs.Bytes.{nodes_of}
use Rattle.order.specs.Verdict.{Fails}
use Rattle.rows.specs.Inner.Rows.{Has}
use Rattle.rows.specs.Inner.Nodes.{Coming}
use Rattle.rows.proofs.Giving.{turn, all_passed}
use Rattle.failing.proofs.Needing.{seen, in_row}
use Rattle.failing.proofs.Seconds.{none_between, none_more, least_second, no_second}
use Rattle.failing.proofs.search.Search.second.Goals as goal
use Rattle.failing.proofs.search.Search.second.Goals.{After-into_iter-y-iterator}

-- the row of suspects, whose nodes are given, names every pair that fails
named : (c : After-into_iter-y-iterator)
    → let s = c.args.self.now in
    (z : ℕ) → z < c.nodes-n.result → Fails s.question (nodes_of s.bytes) c.args.a z → Has c.into_iter-y-iterator.result.w c.args.a z
named c z l f =
    let same = ap (λ (s : Coming). s.w) (c.into_iter-y-iterator.ensures.into_iter_gives ∙ c.members-y-items.ensures) in
    rw same (in_row (seen c.self.view_is c.self.invariant) _ _ c.nodes-n.ensures.0 c.requires.0 z l f)

pub returns-then-fails : goal.returns-then-fails
returns-then-fails c =
    let p = goal.at.returns-then-fails c in
    let t = turn (none_between _ (named p.After-into_iter-y-iterator)) c.loop-y.invariant c.in-Some.ensures.steps in
    rw (← c.nodes-n.ensures.0) (least_second _ t.done t.low c.if-fails.ensures)

pub loop-y-preserved : goal.loop-y-preserved
loop-y-preserved c =
    let p = goal.at.loop-y-preserved c in
    let t = turn (none_between _ (named p.After-into_iter-y-iterator)) c.loop-y.invariant c.in-Some.ensures.steps in
    record { place = _; stands = t.after; done = none_more _ t.done c.if-fails.ensures }

pub returns : goal.returns
returns c =
    let p = goal.at.returns c in
    rw (← c.nodes-n.ensures.0)
    (no_second (all_passed (none_between _ (named p.After-into_iter-y-iterator)) c.loop-y.invariant c.in-None.ensures.steps))
