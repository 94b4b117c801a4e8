-- Who may meet whom, and what the rows keep on the way there.
use Rattle.std.specs.Prelude.{◌≡◌, List, ℕ, ◌<◌, T, Option, Some, None}
use Rattle.listing.specs.Node.{Listing}
use Rattle.order.specs.Walks.{loc_at, Access}
use Rattle.order.specs.Chains.{overlap, MayMeet}
use Rattle.rows.specs.Inner.Rows.{Has}

-- two nodes whose locations overlap
abbrev pub Overlapping : Listing → ℕ → ℕ → Type 0
Overlapping L a b = T (overlap (loc_at L a) (loc_at L b))

-- if there is an answer, it is an earlier node with a's location
abbrev pub TwinIfAny : Listing → ℕ → Option ℕ → Type 0
TwinIfAny L a (Some r) = (r < a) × (loc_at L r ≡ loc_at L a)
TwinIfAny L a None = Unit {0}

-- b stands in the row of some node of u below i
abbrev pub FromSome : List ℕ → List ℕ → ℕ → ℕ → Type 0
FromSome u m i b = (w : ℕ) × (w < i) × Has u 0 w × Has m w b

-- b is one of the accesses, and stands in the row of some writer
abbrev pub LiveAmong : List ℕ → List ℕ → List ℕ → ℕ → ℕ → Type 0
LiveAmong accesses writers m n b = Has accesses 0 b × FromSome writers m n b

-- two accesses that may meet
abbrev pub Meeting : Listing → ℕ → ℕ → Type 0
Meeting L a b = Access L a × Access L b × MayMeet L a b
