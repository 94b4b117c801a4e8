-- What the search leaves of `chains::distances`.
use Rattle.chains.proofs.Levels.{level_start, level_more, level_end}
use Rattle.chains.proofs.distances.Goals as goal

pub loop-r-init : goal.loop-r-init
loop-r-init c = level_start _ _ _ _ c.requires c.mark.ensures

pub loop-r-preserved : goal.loop-r-preserved
loop-r-preserved c =
    level_more _ _ _ _ _ _ _ c.loop-r.invariant c.round.ensures c.loop-r-test.true

pub returns : goal.returns
returns c =
    level_end _ _ _ _ _ _ _ c.loop-r.invariant c.round.ensures c.loop-r-test.false
