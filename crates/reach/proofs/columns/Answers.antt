-- What the search leaves of `reach::columns`.
use Rattle.rows.proofs.Growing.{rows_more}
use Rattle.reach.proofs.Thinned.{row_ends}
use Rattle.reach.proofs.columns.Goals as goal

pub loop-a-preserved : goal.loop-a-preserved
loop-a-preserved c =
    let p = c.requires in
    let done = c.loop-a.invariant in
    rows_more _ _ _ _ _ p.0 done (row_ends _ _ _ _ _ _ _ p.0 p.1 done c.pour.ensures c.sift.ensures)
