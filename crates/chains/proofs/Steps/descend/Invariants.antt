-- `chains::Steps::descend` meets its contract.
use Rattle.chains.proofs.Going.{Going}
use Rattle.chains.proofs.Steps.descend.Given as goal

abbrev pub invariant-loop-i : goal.invariant-loop-i
invariant-loop-i l = Going l.self.n l.self.m.now l.self.w.now l.d l.initial.out l.out l.x l.pairs l.at l.i
