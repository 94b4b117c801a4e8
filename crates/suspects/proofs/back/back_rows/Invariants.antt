-- `suspects::back::back_rows` meets its contract.
use Rattle.suspects.specs.Inner.Back.{RowBack}
use Rattle.rows.specs.Inner.Growing.{RowsDone}
use Rattle.suspects.proofs.back.back_rows.Given as goal

abbrev pub invariant-loop-a : goal.invariant-loop-a
invariant-loop-a l = RowsDone (RowBack l.p l.m l.h) l.w l.a l.n
