-- The links and the walks of a listing, as rows.
use Rattle.std.specs.Prelude.{◌≡◌, ◌⊎◌, List, ℕ, ◌<◌}
use Rattle.listing.specs.Node.{Listing, node}
use Rattle.order.specs.Rows.{All}
use Rattle.order.specs.Walks.{Next, Succ, Walk}
use Rattle.rows.specs.Inner.Rows.{Has}
use Rattle.rows.specs.Inner.Touched.{Covers}
use Rattle.rows.specs.Inner.Growing.{RowGrown}

-- b is put into row a if it is a node: w before, v after
abbrev pub Linked : List ℕ → List ℕ → ℕ → ℕ → ℕ → Type 0
Linked w v n a b = RowGrown (λ x y. b ≡ y) w v a n

-- a walk from a to b with only nodes of m inside
abbrev pub Walked : Listing → List ℕ → ℕ → ℕ → Type 0
Walked L m a b = (inside : List ℕ) × Walk L a inside b × All (λ c. Has m 0 c) inside

-- the rows have every link, and nothing but walks with only nodes of m inside
pub record Begun (L : Listing) (m w : List ℕ) (n : ℕ) : Type 0 where
  pub sound : (a b : ℕ) → b < 128 → Has w a b → (a < n) × (b < n) × Walked L m a b
  pub links : (a b : ℕ) → a < n → b < n → Succ L a b → Has w a b

-- b's row is put into row a if b is a node of m: w before, v after
pub record Pulled (m w v : List ℕ) (n a b : ℕ) : Type 0 where
  pub gives : (x y : ℕ) → y < 128 → Has v x y → Has w x y ⊎ ((x ≡ a) × (b < n) × Has m 0 b × Has w b y)
  pub keeps : (x y : ℕ) → y < 128 → Has w x y → Has v x y

-- row a has all that row b has, if b is a node of m
abbrev pub Calm : List ℕ → List ℕ → ℕ → ℕ → ℕ → Type 0
Calm m w n a b = b < n → Has m 0 b → Covers w a b

-- every row has all that the rows of its node's successors in m have
pub record Settled (L : Listing) (m w : List ℕ) (n : ℕ) : Type 0 where
  pub calm : (a b : ℕ) → a < n → Next (node L a) b → Calm m w n a b
