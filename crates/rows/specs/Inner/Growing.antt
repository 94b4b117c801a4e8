-- Rows that are filled node by node: what stands after one more.
use Rattle.std.specs.Prelude.{◌≡◌, ◌⊎◌, List, ℕ, ◌<◌}
use Rattle.rows.specs.Inner.Rows.{Has}

-- row a of w has got the nodes below n that A names; v is w after
pub record RowGrown (A : ℕ → ℕ → Type 0) (w v : List ℕ) (a n : ℕ) : Type 0 where
  pub gives : (x y : ℕ) → y < 128 → Has v x y → Has w x y ⊎ ((x ≡ a) × (y < n) × A a y)
  pub keeps : (x y : ℕ) → y < 128 → Has w x y → Has v x y
  pub done : (y : ℕ) → y < n → A a y → Has v a y

-- the rows below k keep A among the first n nodes, and the others nothing
pub record RowsDone (A : ℕ → ℕ → Type 0) (w : List ℕ) (k n : ℕ) : Type 0 where
  pub sound : (x y : ℕ) → y < 128 → Has w x y → (x < k) × (y < n) × A x y
  pub whole : (x y : ℕ) → x < k → y < n → A x y → Has w x y
