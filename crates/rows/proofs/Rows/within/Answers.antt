-- `Rows::within` meets its contract.
use Rattle.rows.proofs.TwoRows.{both_same, covers}
use Rattle.rows.proofs.Rows.within.Goals as goal

pub returns : goal.returns
returns g c =
    both_same _ _ _ _ _ c.eq.ensures
    (λ l h. covers _ _ _ (rw (← c.of-whole.ensures.low, ← c.of.ensures.low, ← c.bitand.ensures.0) l)
    (rw (← c.of-whole.ensures.high, ← c.of.ensures.high, ← c.bitand.ensures.1) h))
