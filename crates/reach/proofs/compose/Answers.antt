-- What the search leaves of `reach::compose`.
use Rattle.rows.proofs.Growing.{rows_more}
use Rattle.reach.proofs.Steps.{then_copy}
use Rattle.reach.proofs.compose.Goals as goal
use Rattle.reach.proofs.compose.Goals.{then-y-x, else-y-x}

pub loop-x-preserved : goal.loop-x-preserved
loop-x-preserved c =
    let hn = c.requires.0 in
    let done = c.loop-x.invariant in
    let same = c.earlier-y.ensures.same in
    elim c.if-y-x.branch [
      | then-y-x q ↦
          rw q.v-is (rows_more _ _ _ _ _ hn done (then_copy _ _ _ _ _ _ _ hn q.if-y-x.true (same q.if-y-x.true) done q.or_row.ensures))
      | else-y-x q ↦ rw q.v-is (rows_more _ _ _ _ _ hn done q.compose_row.ensures)
    ]
