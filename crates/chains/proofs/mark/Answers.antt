-- What the search leaves of `chains::mark`.
use Rattle.chains.proofs.Starting.{started}
use Rattle.chains.proofs.mark.Goals as goal

pub returns : goal.returns
returns c = started _ _ _ _ c.loop-x.invariant c.loop-x-test.false
