-- What the search leaves of `Rows::narrow`.
use native.Mathlib.Omega.{arith}
use Rattle.rows.proofs.AllWords.{common}
use Rattle.rows.proofs.Rows.narrow.Goals as goal

pub returns : goal.returns
returns g c =
    let l = c.loop-i.invariant in
    rw (← c.self.view_is) (common _ _ _ (λ j h. l.done j (omega arith)) (λ j h. l.ahead j (omega arith)))

pub invariant_of-self : goal.invariant_of-self
invariant_of-self g c = omega arith
