-- The least number that satisfies something: what every search promises.
use Rattle.std.specs.Prelude.{ℕ, ◌≤◌, ◌<◌, Option, Some, None}

-- r is the least number from b on and below n that satisfies P, or n where none does
pub record Least (P : ℕ → Type 0) (b n r : ℕ) : Type 0 where
  pub low : r ≤ n
  pub from : b ≤ r
  pub here : r < n → P r
  pub none : (z : ℕ) → b ≤ z → z < r → P z → ⊥

-- the same of an answer that says by none that there is no such number
abbrev pub LeastIfAny : (ℕ → Type 0) → ℕ → ℕ → Option ℕ → Type 0
LeastIfAny P b n (Some r) = (r < n) × Least P b n r
LeastIfAny P b n None = Least P b n n
