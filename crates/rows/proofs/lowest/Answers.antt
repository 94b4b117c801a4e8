-- `rows::lowest` meets its contract.
use Rattle.rows.proofs.Bit.{lowest_none, lowest_some}
use Rattle.rows.proofs.lowest.Goals as goal

pub returns-then-y-eq0 : goal.returns-then-y-eq0
returns-then-y-eq0 c = lowest_none _ _ c.ranges.x.fits c.requires c.if-y-eq0.true

pub returns : goal.returns
returns c = lowest_some _ _ c.ranges.x.fits c.requires c.if-y-eq0.false
