-- `reach::keep_columns` meets its contract.
use Rattle.rows.specs.Inner.Rows.{Has}
use Rattle.rows.specs.Inner.Thinned.{Thinned}
use Rattle.reach.proofs.keep_columns.Given as goal

abbrev pub invariant-loop-a : goal.invariant-loop-a
invariant-loop-a l = Thinned (λ x y. Has l.s 0 y) l.initial.w l.w l.a
