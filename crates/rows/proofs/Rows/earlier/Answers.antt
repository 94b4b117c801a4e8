-- `Rows::earlier` meets its contract.
use native.Mathlib.Omega.{arith}
use Rattle.std.proofs.Common.{rules, tests}
use Rattle.std.specs.Bool.{⊤}
use Rattle.std.proofs.lemmas.Iterator.{first_from_Range}
use Rattle.rows.proofs.TwoRows as two
use Rattle.rows.proofs.Rows.earlier.Goals as goal

pub returns : goal.returns
returns g c =
    let a = c.args in
    rw c.unwrap_or.ensures
    (two.earlier _ _ _ _ _ c.find.result
    (first_from_Range _ _ _ _ (two.SameWords a.self.now a.x) (λ y. ⊤) c.find.ensures.ran
    (λ y q k. (grind (arith, tests), grind (arith, tests)))
    (λ y q k. (search rules, tt))))
