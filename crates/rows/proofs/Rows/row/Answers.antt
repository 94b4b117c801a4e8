-- `Rows::row` meets its contract.
use native.Mathlib.Omega.{arith}
use mathlib.Core.Path.{refl}
use mathlib.Core.List.{[], ◌∷◌}
use Rattle.rows.proofs.OneRow.{copied}
use Rattle.rows.proofs.Rows.row.Goals as goal

pub returns : goal.returns
returns g c = copied _ (0 ∷ 0 ∷ []) _ (omega arith) c.of-row.ensures.low c.of-row.ensures.high refl
