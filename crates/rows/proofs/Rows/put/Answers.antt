-- `Rows::put` meets its contract.
use native.Mathlib.Omega.{arith}
use Rattle.rows.proofs.OneBit.{added}
use Rattle.rows.proofs.Rows.put.Goals as goal

pub returns : goal.returns
returns g c = rw (← c.self.view_is) (added _ _ _ (omega arith) c.requires.1)
