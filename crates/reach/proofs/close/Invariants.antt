-- `reach::close` meets its contract.
use Rattle.reach.proofs.Trails.{TrailsBelow}
use Rattle.reach.proofs.close.Given as goal

abbrev pub invariant-loop-k : goal.invariant-loop-k
invariant-loop-k l = TrailsBelow l.n l.m l.initial.w l.w l.k
