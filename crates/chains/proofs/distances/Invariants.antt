-- `chains::distances` meets its contract.
use Rattle.chains.specs.Inner.Levels.{unset}
use Rattle.chains.proofs.Levels.{Level}
use Rattle.chains.proofs.distances.Given as goal

abbrev pub invariant-loop-r : goal.invariant-loop-r
invariant-loop-r l = Level l.n l.w l.t l.d l.r

abbrev pub decreases-loop-r : goal.decreases-loop-r
decreases-loop-r l = unset l.d
