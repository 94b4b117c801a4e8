-- `chains::mark` meets its contract.
use Prim.Native.Nat.{◌-◌}
use Rattle.chains.proofs.Starting.{StartedBelow}
use Rattle.chains.proofs.mark.Given as goal

abbrev pub invariant-loop-x : goal.invariant-loop-x
invariant-loop-x l = StartedBelow l.n l.t l.d l.x

abbrev pub decreases-loop-x : goal.decreases-loop-x
decreases-loop-x l = 128 - l.x
