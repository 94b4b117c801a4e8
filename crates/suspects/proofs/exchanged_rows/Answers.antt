-- `suspects::exchanged_rows` meets its contract.
use borrow.Author.Rules.{rules}
use Rattle.order.specs.Walks.{counts_rmw}
use Rattle.meetings.proofs.Counted.{counted}
use Rattle.suspects.proofs.RmwInside.{exchanged_hold}
use Rattle.suspects.proofs.exchanged_rows.Goals as goal

pub returns : goal.returns
returns c =
    let n = c.nodes-n.ensures in
    let rmws = c.gather-rmws.ensures.members counts_rmw (λ k r p. search rules) in
    exchanged_hold (counted n.whole) c.requires rmws (rw n.count.0 at c.columns.ensures) (rw n.count.0 at c.compose.ensures)
