-- `barriers::keep_past` meets its contract.
use borrow.Author.Rules.{rules}
use mathlib.Core.Bool.{not}
use lib.Dec.{eqb}
use Rattle.listing.specs.Inner.Coded.{number_of}
use Rattle.order.specs.Inner.Ends.{looks_first, looks_second}
use Rattle.order.specs.Inner.Asking.{asked}
use Rattle.meetings.proofs.Counted.{counted}
use Rattle.barriers.proofs.Kept.{past_none, past_kept}
use Rattle.barriers.proofs.keep_past.Goals as goal

pub returns-then-is_empty : goal.returns-then-is_empty
returns-then-is_empty c =
    let n = c.nodes-n.ensures in
    let fence = number_of c.args.fence in
    let fences = c.gather-fences.ensures.members (λ k. eqb k fence) (λ k r p. search rules) in
    past_none (asked c.args.question) fence (counted n.whole) _ _ fences (rw n.count.0 at (rw c.if-is_empty.true at c.is_empty.ensures)) c.requires

pub returns : goal.returns
returns c =
    let n = c.nodes-n.ensures in
    let fence = number_of c.args.fence in
    let firsts = c.gather-firsts.ensures.members (λ k. looks_first fence k) (λ k r p. search rules) in
    let others = c.gather-others.ensures.members (λ k. not (looks_second fence k)) (λ k r p. search rules) in
    past_kept (asked c.args.question) fence (counted n.whole) _ _ _ _ _ firsts others c.clear_rows.ensures.clear c.requires
    (rw n.count.0 at c.keep_rows.ensures)
