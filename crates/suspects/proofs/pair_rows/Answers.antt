-- `suspects::pair_rows` meets its contract.
use borrow.Author.Rules.{rules}
use Rattle.order.specs.Walks.{is_access}
use Rattle.meetings.proofs.Counted.{counted}
use Rattle.suspects.proofs.Pairs.{pairs_hold}
use Rattle.suspects.proofs.pair_rows.Goals as goal

pub returns-clause-pairs : goal.returns-clause-pairs
returns-clause-pairs c =
    let n = c.nodes.ensures in
    let accesses = c.gather-accesses.ensures.members is_access (λ k r p. search rules) in
    pairs_hold (counted n.whole) c.reach_rows.ensures accesses (rw n.count.0 at c.restrict.ensures)
