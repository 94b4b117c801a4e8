-- `reach::turn` meets its contract.
use Rattle.reach.proofs.Steps.{ConverseBelow}
use Rattle.reach.proofs.turn.Given as goal

abbrev pub invariant-loop-a : goal.invariant-loop-a
invariant-loop-a l = ConverseBelow l.n l.w l.v l.a
