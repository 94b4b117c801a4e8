-- `reader::search::first_dead` meets its contract.
use Rattle.reader.proofs.Hunting.{lack_if_any}
use Rattle.reader.proofs.search.first_dead.Goals as goal

pub returns : goal.returns
returns c =
    let few = c.nodes.ensures.count in
    lack_if_any _ _ _ _ (rw few.0 at few.1) c.follow.ensures (rw few.0 at c.missing.ensures)
