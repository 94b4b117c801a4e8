-- A routine's entry, and the nodes that walks from it reach.
use Rattle.std.specs.Prelude.{◌≡◌, ◌≢◌, ◌⊎◌, List, ℕ, ◌<◌, length}
use Rattle.listing.specs.Node.{Listing, node}
use Rattle.order.specs.Walks.{Walk}

-- "The lowest-numbered node of a routine is its entry": e is routine r's
pub record EntryOf (L : Listing) (r e : ℕ) : Type 0 where
  pub within : e < length L
  pub own : (node L e).routine ≡ r
  pub lowest : (x : ℕ) → x < e → (node L x).routine ≢ r

-- e is a itself, or a walk leads from e to a
abbrev pub Reached : Listing → ℕ → ℕ → Type 0
Reached L e a = (e ≡ a) ⊎ ((inside : List ℕ) × Walk L e inside a)

-- "Any other node that no walk from the entry of its routine reaches is refused": what passes is the entry itself, or reached from it
abbrev pub Entered : Listing → ℕ → Type 0
Entered L a = (e : ℕ) × EntryOf L (node L a).routine e × Reached L e a

-- every node is
abbrev pub AllEntered : Listing → Type 0
AllEntered L = (a : ℕ) → a < length L → Entered L a
