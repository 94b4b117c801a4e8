-- What the search leaves of `reach::keep_columns`.
use Rattle.reach.proofs.Thinned.{thinned_more, sifts}
use Rattle.reach.proofs.keep_columns.Goals as goal

pub loop-a-preserved : goal.loop-a-preserved
loop-a-preserved c =
    thinned_more _ _ _ _ c.loop-a.invariant (sifts _ _ _ _ c.sift.ensures)
