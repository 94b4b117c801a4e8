-- Paths to a goal: their first step, and paths by a relation that another one covers.
use mathlib.Core.Path.{◌≡◌}
use Prim.Native.Nat.{ℕ, suc, ◌≤◌}
use native.Mathlib.Omega.{arith}
use Rattle.chains.specs.Inner.Far.{Path, here, step}

pub no_steps : {X : ℕ → ℕ → Type 0} {T : ℕ → Type 0} {x k : ℕ} → Path X T x k → k ≤ 0 → T x
no_steps (here t) h = t
no_steps (step s p) h = absurd (omega arith)

pub first_step : {X : ℕ → ℕ → Type 0} {T : ℕ → Type 0} {x m : ℕ} (r : ℕ) → Path X T x m → m ≡ suc r → (y : ℕ) × X x y × Path X T y r
first_step r (here t) e = absurd (omega arith)
first_step r (step {y = y} {k = k} s p) e = let f : k ≡ r = omega arith in (y, s, rw f at p)

pub path_map : {X Y : ℕ → ℕ → Type 0} {T : ℕ → Type 0} (f : (x y : ℕ) → X x y → Y x y) {x k : ℕ} → Path X T x k → Path Y T x k
path_map f (here t) = here t
path_map f (step {x = x} {y = y} s p) = step (f x y s) (path_map f p)
