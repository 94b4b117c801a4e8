-- `reach::compose_row` meets its contract.
use Rattle.rows.specs.Inner.Growing.{RowGrown}
use Rattle.rows.proofs.Giving.{Passed}
use Rattle.reach.specs.Inner.Whole.{Then}
use Rattle.reach.proofs.compose_row.Given as goal

abbrev pub invariant-loop-c : goal.invariant-loop-c
invariant-loop-c l = Passed l.r l.x l.n (λ k. RowGrown (Then k l.r l.w) l.initial.v l.v l.x l.n) l.c-iterator
