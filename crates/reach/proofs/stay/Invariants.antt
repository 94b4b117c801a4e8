-- `reach::stay` meets its contract.
use Rattle.reach.proofs.Staying.{Staying}
use Rattle.reach.proofs.stay.Given as goal

abbrev pub invariant-loop-a : goal.invariant-loop-a
invariant-loop-a l = Staying l.initial.w l.w l.a
