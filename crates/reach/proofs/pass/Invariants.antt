-- `reach::pass` meets its contract.
use Rattle.reach.specs.Inner.Whole.{Passed}
use Rattle.reach.proofs.pass.Given as goal

abbrev pub invariant-loop-a : goal.invariant-loop-a
invariant-loop-a l = Passed l.initial.w l.w l.a l.k
