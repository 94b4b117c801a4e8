-- `meetings::meet_rows` meets its contract.
use borrow.Author.Rules.{rules}
use Rattle.order.specs.Walks.{is_access, is_writer}
use Rattle.meetings.proofs.Counted.{counted}
use Rattle.meetings.proofs.Living.{meetings_hold}
use Rattle.meetings.proofs.meet_rows.Goals as goal

pub returns : goal.returns
returns c =
    let n = c.nodes-n.ensures in
    let accesses = c.gather-accesses.ensures.members is_access (λ k r p. search rules) in
    let writers = c.gather-writers.ensures.members is_writer (λ k r p. search rules) in
    meetings_hold (counted n.whole) c.overlap_rows.ensures accesses writers (rw n.count.0 at c.live_accesses-live.ensures)
    (rw n.count.0 at c.keep_rows.ensures) (rw n.count.0 at c.keep_columns.ensures)
