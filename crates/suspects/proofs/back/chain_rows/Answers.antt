-- `suspects::back::chain_rows` meets its contract.
use borrow.Author.Rules.{rules}
use mathlib.Core.Bool.{true}
use Rattle.meetings.proofs.Counted.{counted}
use Rattle.suspects.proofs.LeadingBack.{led_hold, chain_hold}
use Rattle.suspects.proofs.back.chain_rows.Goals as goal

pub returns : goal.returns
returns c =
    let pre = c.requires in
    let n = c.nodes-n.ensures in
    let few = counted n.whole in
    let e = n.count.0 in
    let every = c.gather-every.ensures.members (λ k. true) (λ k r p. search rules) in
    chain_hold few pre.0 pre.1
    (led_hold few pre.0 pre.1 every (rw e at c.turn.ensures) (rw e at c.compose.ensures) (rw e at c.close.ensures))
    (rw e at c.stay.ensures) (rw e at c.back_rows.ensures)
