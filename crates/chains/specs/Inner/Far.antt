-- Paths by a relation to a set of goals, and their least lengths.
use Rattle.std.specs.Prelude.{◌≡◌, ◌⊎◌, List, ℕ, suc, ◌≤◌, ◌<◌, get_or}
use Rattle.rows.specs.Inner.Rows.{Has}

-- what stands for the distance of a node that has no path
abbrev pub unreached : ℕ
unreached = 255

-- a path of k steps from x to a goal
pub data Path (X : ℕ → ℕ → Type 0) (T : ℕ → Type 0) : ℕ → ℕ → Type 0 where
  here : {x : ℕ} → T x → Path X T x 0
  step : {x y k : ℕ} → X x y → Path X T y k → Path X T x (suc k)

-- a node of the set t
abbrev pub Goal : ℕ → List ℕ → ℕ → Type 0
Goal n t x = (x < n) × Has t 0 x

-- the least lengths of the nodes below n, unreached where there is no path; a shortest path has different nodes, so it has fewer steps than nodes
pub record Far (n : ℕ) (X : ℕ → ℕ → Type 0) (T : ℕ → Type 0) (d : List ℕ) : Type 0 where
  pub never : (x : ℕ) → x < n → get_or d x 0 ≡ unreached → (k : ℕ) → Path X T x k → ⊥
  pub path : (x : ℕ) → x < n → (get_or d x 0 ≡ unreached → ⊥) → Path X T x (get_or d x 0)
  pub least : (x : ℕ) → x < n → (k : ℕ) → Path X T x k → get_or d x 0 ≤ k
  pub bound : (x : ℕ) → x < n → (get_or d x 0 ≡ unreached) ⊎ (get_or d x 0 < n)
  pub beyond : (x : ℕ) → n ≤ x → x < 128 → get_or d x 0 ≡ unreached
