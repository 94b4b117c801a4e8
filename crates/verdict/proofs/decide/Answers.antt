-- `verdict::decide` meets its contract.
use Rattle.verdict.proofs.Deciding.{told_robust, chained, told_open}
use Rattle.verdict.proofs.decide.Goals as goal

pub returns-in_default : goal.returns-in_default
returns-in_default c = told_robust _ _ _ (rw c.in_default.is at c.first_failing.ensures)

pub new-requires : goal.new-requires
new-requires c = chained _ _ _ c.in-Some.ensures _ _ _ _ c.prepare.ensures

pub returns : goal.returns
returns c = told_open _ _ _ c.in-Some.ensures _ _ _ (rw c.new.ensures at c.show-count.ensures)
