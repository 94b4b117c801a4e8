-- Rows thinned one after the other: w before, v after.
use Rattle.std.specs.Prelude.{◌≡◌, List, ℕ, ◌<◌}
use Rattle.rows.specs.Inner.Rows.{at, Has}

-- of the rows below k only what satisfies P is kept
pub record Thinned (P : ℕ → ℕ → Type 0) (w v : List ℕ) (k : ℕ) : Type 0 where
  pub gives : (x y : ℕ) → y < 128 → Has v x y → Has w x y × (x < k → P x y)
  pub keeps : (x y : ℕ) → y < 128 → Has w x y → P x y → Has v x y

-- of row a alone; the other rows are as they were
pub record RowThinned (P : ℕ → Type 0) (w v : List ℕ) (a : ℕ) : Type 0 where
  pub gives : (y : ℕ) → y < 128 → Has v a y → Has w a y × P y
  pub keeps : (y : ℕ) → y < 128 → Has w a y → P y → Has v a y
  pub rest : (x y : ℕ) → y < 128 → (x ≡ a → ⊥) → at v x y ≡ at w x y
