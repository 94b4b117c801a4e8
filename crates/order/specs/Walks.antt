-- Kinds, walks and pairs.
use Rattle.std.specs.Prelude.{◌≡◌, ◌⊎◌, List, Bool, ◌||◌, ℕ, ◌<◌, T, eqb, length}
use Rattle.listing.specs.Kinds.{READ, WRITE, RMW, FENCE, ACQUIRE, RELEASE, ACQUIRE_PC}
use Rattle.listing.specs.Node.{Node, Listing, node}
use Rattle.order.specs.Rows.{Row}

abbrev pub kind_at : Listing → ℕ → ℕ
kind_at L a = (node L a).kind

abbrev pub loc_at : Listing → ℕ → ℕ
loc_at L a = (node L a).location

-- "Kinds 1, 5 and 9 count as reads, 2 and 6 as writes, 3 as an RMW, which is neither"
abbrev pub counts_read : ℕ → Bool
counts_read k = eqb k READ || (eqb k ACQUIRE || eqb k ACQUIRE_PC)

abbrev pub counts_write : ℕ → Bool
counts_write k = eqb k WRITE || eqb k RELEASE

abbrev pub counts_rmw : ℕ → Bool
counts_rmw k = eqb k RMW

-- "a write or an RMW"
abbrev pub is_writer : ℕ → Bool
is_writer k = counts_write k || counts_rmw k

-- "Kinds 1 to 3, 5, 6 and 9 are accesses"
abbrev pub is_access : ℕ → Bool
is_access k = counts_read k || is_writer k

-- "full fence"
abbrev pub is_fence : ℕ → Bool
is_fence k = eqb k FENCE

abbrev pub Access : Listing → ℕ → Type 0
Access L a = T (is_access (kind_at L a))

-- a successor link: b is a node that a names. A listing has at most 128 nodes, so 255, "none", is no node
abbrev pub Next : Node → ℕ → Type 0
Next n b = (n.first ≡ b) ⊎ (n.second ≡ b)

abbrev pub Succ : Listing → ℕ → ℕ → Type 0
Succ L a b = (a < length L) × (b < length L) × Next (node L a) b

-- "A walk from a to b follows at least one successor link. What is inside it is every node visited between its two ends;
-- a or b may occur inside again": `inside` lists them in the order of the visit
abbrev pub Walk : Listing → ℕ → List ℕ → ℕ → Type 0
Walk L a inside b = Row (Succ L) a inside b

-- "A pair (a, b) is two accesses, possibly the same node, with a walk from a to b"
pub record Pair (L : Listing) (a b : ℕ) : Type 0 where
  pub from : Access L a
  pub to : Access L b
  pub walk : (inside : List ℕ) × Walk L a inside b
