-- `reach::turn_row` meets its contract.
use Rattle.rows.proofs.Giving.{Passed}
use Rattle.reach.specs.Inner.Whole.{Turning}
use Rattle.reach.proofs.turn_row.Given as goal

abbrev pub invariant-loop-b : goal.invariant-loop-b
invariant-loop-b l = Passed l.w l.a l.n (λ k. Turning l.w l.initial.v l.v l.a k) l.b-iterator
