-- `suspects::back::back_row` meets its contract.
use Rattle.rows.specs.Inner.Growing.{RowGrown}
use Rattle.rows.proofs.Giving.{Passed}
use Rattle.suspects.specs.Inner.Back.{RowBack}
use Rattle.suspects.proofs.back.back_row.Given as goal

abbrev pub invariant-loop-b : goal.invariant-loop-b
invariant-loop-b l = Passed l.p l.a l.n (λ k. RowGrown (RowBack l.p l.m l.h) l.initial.w l.w l.a k) l.b-iterator
