-- `barriers::clear_rows` meets its contract.
use borrow.Author.Rules.{rules}
use mathlib.Core.Bool.{not}
use Rattle.listing.specs.Inner.Coded.{number_of}
use Rattle.order.specs.Need.{question}
use Rattle.order.specs.Inner.Ends.{bars_with}
use Rattle.order.specs.Inner.Asking.{asked}
use Rattle.meetings.proofs.Counted.{counted}
use Rattle.barriers.proofs.ClearWalks.{clear_hold}
use Rattle.barriers.proofs.clear_rows.Goals as goal

pub returns-clause-clear : goal.returns-clause-clear
returns-clause-clear c =
    let q = asked c.args.question in
    let fence = number_of c.args.fence in
    let free = c.gather-free.ensures.members (λ k. not (bars_with (question q) fence k)) (λ k r p. search rules) in
    clear_hold (counted c.gather-free.ensures.whole) q fence free c.walks.ensures
