-- What the search leaves of `reach::close`.
use Rattle.reach.proofs.Trails.{trails_none}
use Rattle.reach.proofs.close.Goals as goal

pub loop-k-init : goal.loop-k-init
loop-k-init c = trails_none _ _ _ c.requires.1
