-- `rows::take_out` meets its contract.
use native.Mathlib.Omega.{arith}
use Rattle.rows.proofs.OneBit.{removed}
use Rattle.rows.proofs.take_out.Goals as goal

pub returns : goal.returns
returns c = removed _ _ _ (omega arith) c.requires.1
