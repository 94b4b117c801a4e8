-- Walks without barrier: for one fence, and for a pair.
use Rattle.std.specs.Prelude.{◌⊎◌, List, ℕ, ◌<◌, T}
use Rattle.listing.specs.Kinds.{FENCE}
use Rattle.listing.specs.Node.{Listing}
use Rattle.listing.specs.Bytes.{count_n, nodes_of}
use Rattle.order.specs.Rows.{All}
use Rattle.order.specs.Walks.{kind_at, Walk}
use Rattle.order.specs.Need.{question, Unbarred}
use Rattle.order.specs.Inner.Ends.{looks_first, looks_second, bars_with}
use Rattle.rows.specs.Inner.Rows.{Has}

-- some walk from a to b has nothing inside that bars the pairs that the fence looks at
abbrev pub ClearOf : ℕ → ℕ → Listing → ℕ → ℕ → Type 0
ClearOf q fence L a b = (inside : List ℕ) × Walk L a inside b × All (λ c. T (bars_with (question q) fence (kind_at L c)) → ⊥) inside

-- and this one is such a pair, if the fence looks at it
abbrev pub ClearIfLooked : ℕ → ℕ → Listing → ℕ → ℕ → Type 0
ClearIfLooked q fence L a b = T (looks_first fence (kind_at L a)) → T (looks_second fence (kind_at L b)) → ClearOf q fence L a b

-- "some walk between them has no barrier inside"
abbrev pub Clear : ℕ → Listing → ℕ → ℕ → Type 0
Clear q L a b = (inside : List ℕ) × Walk L a inside b × Unbarred q L a b inside

-- all that the rows c have is nodes with a walk that no full fence bars
abbrev pub Cleared : ℕ → List ℕ → List ℕ → Type 0
Cleared q bytes c = (a b : ℕ) → b < 128 → Has c a b → (a < count_n bytes) × (b < count_n bytes) × ClearOf q FENCE (nodes_of bytes) a b

-- what row a of f has, or the set of others
abbrev pub KeptIn : List ℕ → List ℕ → ℕ → ℕ → Type 0
KeptIn others f a b = Has f a b ⊎ Has others 0 b

-- that, if a is in the set of firsts
abbrev pub KeptOf : List ℕ → List ℕ → List ℕ → ℕ → ℕ → Type 0
KeptOf firsts others f a b = Has firsts 0 a → KeptIn others f a b

-- none of the first n nodes is in the set
abbrev pub Nobody : List ℕ → ℕ → Type 0
Nobody s n = (z : ℕ) → z < n → Has s 0 z → ⊥
