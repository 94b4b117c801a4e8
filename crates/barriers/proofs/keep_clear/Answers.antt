-- `barriers::keep_clear` meets its contract.
use Rattle.order.specs.Inner.Asking.{asked}
use Rattle.meetings.proofs.Counted.{counted}
use Rattle.barriers.proofs.Kept.{kept_all}
use Rattle.barriers.proofs.keep_clear.Goals as goal

pub returns : goal.returns
returns c =
    let past = c.clear_rows.ensures in
    kept_all (asked c.args.question) (counted past.whole) c.requires past.clear c.narrow.ensures c.keep_past.ensures c.keep_past-2.ensures
