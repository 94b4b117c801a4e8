-- `reach::compose` meets its contract.
use Rattle.rows.specs.Inner.Growing.{RowsDone}
use Rattle.reach.specs.Inner.Whole.{Then}
use Rattle.reach.proofs.compose.Given as goal

abbrev pub invariant-loop-x : goal.invariant-loop-x
invariant-loop-x l = RowsDone (Then l.n l.r l.w) l.v l.x l.n
