-- `barriers::keep_rows` meets its contract.
use Rattle.rows.specs.Inner.Thinned.{Thinned}
use Rattle.barriers.specs.Inner.Clear.{KeptOf}
use Rattle.barriers.proofs.keep_rows.Given as goal

abbrev pub invariant-loop-a : goal.invariant-loop-a
invariant-loop-a l = Thinned (KeptOf l.firsts l.others l.f) l.initial.c l.c l.a
