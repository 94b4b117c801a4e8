-- `suspects::reach_rows` meets its contract.
use borrow.Author.Rules.{rules}
use mathlib.Core.Bool.{true}
use Rattle.meetings.proofs.Counted.{counted}
use Rattle.suspects.proofs.Reached.{reach_hold}
use Rattle.suspects.proofs.reach_rows.Goals as goal

pub returns : goal.returns
returns c =
    let every = c.gather-every.ensures in
    reach_hold (counted every.whole) (every.members (λ k. true) (λ k r p. search rules)) c.walks.ensures
