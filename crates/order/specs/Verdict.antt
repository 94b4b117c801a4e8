-- Failing pairs, the first of them, the chain to show, and the verdict.
use Rattle.std.specs.Prelude.{◌≡◌, ◌⊎◌, List, [], ◌∷◌, ℕ, ◌<◌, length}
use Rattle.listing.specs.Node.{Listing}
use Rattle.order.specs.Walks.{Walk}
use Rattle.order.specs.Chains.{SurelyMeet, Ends, Chain}
use Rattle.order.specs.Need.{Needs, Unbarred}

-- "A pair fails if it lies on a chain, needs order, its ends don't surely meet, and some walk between them has no barrier inside"
pub record Fails (q : ℕ) (L : Listing) (a b : ℕ) : Type 0 where
  pub chain : (rest : List Ends) × Chain L (a, b) rest
  pub needs : Needs q L a b
  pub apart : SurelyMeet L a b → ⊥
  pub unbarred : (inside : List ℕ) × Walk L a inside b × Unbarred q L a b inside

-- "OPEN exactly if a pair fails"
abbrev pub Robust : ℕ → Listing → Type 0
Robust q L = (a b : ℕ) → Fails q L a b → ⊥

-- "smallest first node, then smallest second node"
abbrev pub Before : Ends → Ends → Type 0
Before p q = (p.0 < q.0) ⊎ ((p.0 ≡ q.0) × (p.1 < q.1))

-- "the first failing pair"
pub record First (q : ℕ) (L : Listing) (p : Ends) : Type 0 where
  pub fails : Fails q L p.0 p.1
  pub first : (a b : ℕ) → Fails q L a b → Before (a, b) p → ⊥

-- "the smallest, compared number by number", of two lists of one length
abbrev pub Smaller : List Ends → List Ends → Type 0
Smaller [] qs = ⊥
Smaller (p ∷ ps) [] = ⊥
Smaller (p ∷ ps) (q ∷ qs) = Before p q ⊎ ((p ≡ q) × Smaller ps qs)

-- "the fewest pairs; among those it is the smallest"
abbrev pub Better : List Ends → List Ends → Type 0
Better ps qs = (length ps < length qs) ⊎ ((length ps ≡ length qs) × Smaller ps qs)

-- "The shown chain": no chain through p is better than `p ∷ rest`
pub record Shown (L : Listing) (p : Ends) (rest : List Ends) : Type 0 where
  pub chain : Chain L p rest
  pub best : (other : List Ends) → Chain L p other → Better other rest → ⊥

-- "ROBUST, or OPEN with the first failing pair" and its chain, `p ∷ rest`
pub data Verdict : Type 0 where
  robust : Verdict
  opened : Ends → List Ends → Verdict

-- the verdict of the listing L under question q
abbrev pub Judged : ℕ → Listing → Verdict → Type 0
Judged q L robust = Robust q L
Judged q L (opened p rest) = First q L p × Shown L p rest
