-- `Rows::meet` meets its contract.
use native.Mathlib.Omega.{arith}
use Rattle.rows.proofs.TwoRows.{meets}
use Rattle.rows.proofs.Rows.meet.Goals as goal

pub returns : goal.returns
returns g c =
    let both = c.bitand.result in
    meets _ _ _ _ both.low both.high (cc) (cc) (omega arith) (omega arith) c.ne.ensures
