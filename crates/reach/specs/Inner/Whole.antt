-- What becomes of whole relations: w before, v after. `Holds` of the rows after, with one of the relations here, is what most functions promise.
use Rattle.std.specs.Prelude.{◌≡◌, ◌⊎◌, List, ℕ, ◌<◌}
use Rattle.order.specs.Rows.{All, Row}
use Rattle.rows.specs.Inner.Rows.{Has, Link}

-- one link or more from a to b, with only nodes of m in between
abbrev pub Through : ℕ → List ℕ → List ℕ → ℕ → ℕ → Type 0
Through n w m a b = (inside : List ℕ) × Row (Link n w) a inside b × All (λ c. Has m 0 c) inside

-- a step by r and then a step by w
abbrev pub Then : ℕ → List ℕ → List ℕ → ℕ → ℕ → Type 0
Then n r w a b = (c : ℕ) × (c < n) × Has r a c × Has w c b

-- the relation turned round
abbrev pub Converse : List ℕ → ℕ → ℕ → Type 0
Converse w a b = Has w b a

-- what starts in s
abbrev pub StartsIn : List ℕ → List ℕ → ℕ → ℕ → Type 0
StartsIn s w a b = Has w a b × Has s 0 a

-- what ends in s
abbrev pub EndsIn : List ℕ → List ℕ → ℕ → ℕ → Type 0
EndsIn s w a b = Has w a b × Has s 0 b

-- what starts and ends in s
abbrev pub Among : List ℕ → List ℕ → ℕ → ℕ → Type 0
Among s w a b = Has w a b × Has s 0 a × Has s 0 b

-- a step by w, or no step at all
abbrev pub Stays : List ℕ → ℕ → ℕ → Type 0
Stays w a b = (a ≡ b) ⊎ Has w a b

-- k may now lie inside: one round of Warshall's, over the rows below n
pub record Passed (w v : List ℕ) (n k : ℕ) : Type 0 where
  pub gives : (x y : ℕ) → y < 128 → Has v x y → Has w x y ⊎ (Has w x k × Has w k y)
  pub keeps : (x y : ℕ) → y < 128 → Has w x y → Has v x y
  pub done : (x y : ℕ) → x < n → y < 128 → Has w x k → Has w k y → Has v x y

-- a is put into each row of v below n that row a of w names; u is v after
pub record Turning (w v u : List ℕ) (a n : ℕ) : Type 0 where
  pub gives : (x y : ℕ) → y < 128 → Has u x y → Has v x y ⊎ ((y ≡ a) × (x < n) × Has w a x)
  pub keeps : (x y : ℕ) → y < 128 → Has v x y → Has u x y
  pub done : (x : ℕ) → x < n → Has w a x → Has u x a
