-- `Rows::empty_row` meets its contract.
use native.Mathlib.Omega.{arith}
use Rattle.rows.proofs.OneRow.{emptied}
use Rattle.rows.proofs.Rows.empty_row.Goals as goal

pub returns : goal.returns
returns g c = emptied (omega arith) c.store.ensures.stored
