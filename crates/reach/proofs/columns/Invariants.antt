-- `reach::columns` meets its contract.
use Rattle.rows.specs.Inner.Growing.{RowsDone}
use Rattle.reach.specs.Inner.Whole.{EndsIn}
use Rattle.reach.proofs.columns.Given as goal

abbrev pub invariant-loop-a : goal.invariant-loop-a
invariant-loop-a l = RowsDone (EndsIn l.s l.w) l.v l.a l.n
