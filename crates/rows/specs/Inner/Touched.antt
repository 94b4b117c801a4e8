-- What becomes of the rows where one bit or one row is touched: w before, v after.
use Rattle.std.specs.Prelude.{◌≡◌, ◌⊎◌, List, ℕ, ◌≤◌, ◌<◌, min, max}
use Rattle.rows.specs.Inner.Rows.{at, Has}

-- b is put into row a
pub record Added (w v : List ℕ) (a b : ℕ) : Type 0 where
  pub gives : (x y : ℕ) → y < 128 → Has v x y → Has w x y ⊎ ((x ≡ a) × (y ≡ b))
  pub keeps : (x y : ℕ) → y < 128 → Has w x y → Has v x y
  pub new : Has v a b

-- b is taken out of row a
pub record Removed (w v : List ℕ) (a b : ℕ) : Type 0 where
  pub gives : (x y : ℕ) → y < 128 → Has v x y → Has w x y
  pub keeps : (x y : ℕ) → y < 128 → ((x ≡ a) × (y ≡ b) → ⊥) → Has w x y → Has v x y
  pub gone : Has v a b → ⊥

-- row a has become f of what it was and of row k of u; the other rows are as they were
pub record Mixed (f : ℕ → ℕ → ℕ) (u w v : List ℕ) (a k : ℕ) : Type 0 where
  pub row : (y : ℕ) → y < 128 → at v a y ≡ f (at w a y) (at u k y)
  pub rest : (x y : ℕ) → y < 128 → (x ≡ a → ⊥) → at v x y ≡ at w x y

-- row k of u is put into row a
abbrev pub Poured : List ℕ → List ℕ → List ℕ → ℕ → ℕ → Type 0
Poured u w v a k = Mixed max u w v a k

-- row a keeps what row k of u has too
abbrev pub Sifted : List ℕ → List ℕ → List ℕ → ℕ → ℕ → Type 0
Sifted u w v a k = Mixed min u w v a k

-- row a is emptied
pub record Emptied (w v : List ℕ) (a : ℕ) : Type 0 where
  pub row : (y : ℕ) → y < 128 → Has v a y → ⊥
  pub rest : (x y : ℕ) → y < 128 → (x ≡ a → ⊥) → at v x y ≡ at w x y

-- the one row s is row a of m
pub record Copied (m : List ℕ) (a : ℕ) (s : List ℕ) : Type 0 where
  pub same : (y : ℕ) → y < 128 → at s 0 y ≡ at m a y

-- row a has all that row k has
abbrev pub Covers : List ℕ → ℕ → ℕ → Type 0
Covers w a k = (y : ℕ) → y < 128 → Has w k y → Has w a y

-- the rows x and y are the same
abbrev pub Alike : List ℕ → ℕ → ℕ → Type 0
Alike w x y = (z : ℕ) → z < 128 → at w x z ≡ at w y z

-- y is a row before row x that is the same, or x
pub record Earlier (w : List ℕ) (x y : ℕ) : Type 0 where
  pub low : y ≤ x
  pub same : y < x → Alike w x y

-- what both have
pub record Common (u w v : List ℕ) : Type 0 where
  pub gives : (a b : ℕ) → b < 128 → Has v a b → Has w a b × Has u a b
  pub keeps : (a b : ℕ) → b < 128 → Has w a b → Has u a b → Has v a b
