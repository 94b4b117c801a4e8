-- `chains::chain` meets its contract.
use Rattle.chains.proofs.Courses.{downhill, shown}
use Rattle.chains.proofs.chain.Goals as goal

pub descend-requires : goal.descend-requires
descend-requires c =
    downhill _ _ _ _ _ _ _ _ c.requires c.compose.ensures c.distances.ensures

pub returns : goal.returns
returns c =
    rw c.from.ensures
    (shown _ _ _ _ _ _ _ _ c.requires c.compose.ensures c.distances.ensures _ c.descend.ensures)
