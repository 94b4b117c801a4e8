-- What the rounds of the search for distances do: d before, e after, one distance a round.
use Rattle.std.specs.Prelude.{◌≡◌, ◌⊎◌, Bool, true, false, List, [], ◌∷◌, ℕ, ◌+◌, ◌≤◌, ◌<◌, get_or, eqb}
use Rattle.rows.specs.Inner.Rows.{Link, Meet}
use Rattle.chains.specs.Inner.Far.{unreached, Goal}

-- how many have no distance
abbrev pub free : Bool → ℕ
free true = 1
free false = 0

unfoldable pub unset : List ℕ → ℕ
unset [] = 0
unset (v ∷ l) = free (eqb v unreached) + unset l

-- 0 at a goal, and no distance elsewhere
abbrev pub Starts : ℕ → List ℕ → ℕ → ℕ → Type 0
Starts n t x v = (Goal n t x × (v ≡ 0)) ⊎ ((Goal n t x → ⊥) × (v ≡ unreached))

pub record Started (n : ℕ) (t d : List ℕ) : Type 0 where
  pub at : (x : ℕ) → x < 128 → Starts n t x (get_or d x 0)
  pub few : unset d ≤ 128
  pub fewer : (x : ℕ) → x < 128 → (get_or d x 0 ≡ unreached → ⊥) → unset d < 128

-- x is at distance r
abbrev pub AtDistance : List ℕ → ℕ → ℕ → Type 0
AtDistance d r x = get_or d x 0 ≡ r

-- x steps into the one row of s
abbrev pub Into : List ℕ → List ℕ → ℕ → Type 0
Into w s x = Meet w x s 0

-- x steps to a node at distance r
abbrev pub Hits : ℕ → List ℕ → List ℕ → ℕ → ℕ → Type 0
Hits n w d r x = (y : ℕ) × Link n w x y × AtDistance d r y

-- what becomes of a node with v before, u after: where it has no distance and A, it is given the next one to r
pub data Fate (v u r : ℕ) (A : Type 0) : Type 0 where
  had : (v ≡ unreached → ⊥) → u ≡ v → Fate v u r A
  without : v ≡ unreached → u ≡ unreached → (A → ⊥) → Fate v u r A
  given : v ≡ unreached → u ≡ r + 1 → A → Fate v u r A

-- the nodes from b on and below n are looked at; found tells whether any of them is given its distance
pub record Swept (A : ℕ → Type 0) (b n : ℕ) (d e : List ℕ) (r : ℕ) (found : Bool) : Type 0 where
  pub fate : (x : ℕ) → b ≤ x → x < n → Fate (get_or d x 0) (get_or e x 0) r (A x)
  pub same : (x : ℕ) → (b ≤ x → x < n → ⊥) → get_or e x 0 ≡ get_or d x 0
  pub fewer : found ≡ true → unset e < unset d
  pub still : found ≡ false → e ≡ d
  pub low : b ≤ n
  -- no more are given theirs than are looked at
  pub few : unset d + b ≤ unset e + n
