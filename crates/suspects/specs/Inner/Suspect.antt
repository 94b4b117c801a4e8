-- What the rows of the failing-pair test keep, relation by relation.
use Rattle.std.specs.Prelude.{List, ℕ}
use Rattle.listing.specs.Node.{Listing}
use Rattle.listing.specs.Bytes.{count_n, nodes_of}
use Rattle.order.specs.Walks.{Access, Walk, Pair}
use Rattle.order.specs.Chains.{Ends, Chain}
use Rattle.order.specs.Need.{RmwInside}
use Rattle.rows.specs.Inner.Rows.{Holds}
use Rattle.meetings.specs.Inner.Meeting.{Meeting}
use Rattle.barriers.specs.Inner.Clear.{Clear}

-- some walk leads from a to b
abbrev pub Reaches : Listing → ℕ → ℕ → Type 0
Reaches L a b = (inside : List ℕ) × Walk L a inside b

-- two accesses, "some walk between them has an RMW inside"
abbrev pub Exchanged : Listing → ℕ → ℕ → Type 0
Exchanged L a b = Access L a × Access L b × RmwInside L a b

-- "it lies on a chain"
abbrev pub OnChain : Listing → ℕ → ℕ → Type 0
OnChain L a b = (rest : List Ends) × Chain L (a, b) rest

-- all of a failing pair but its need and its ends: on a chain, and with a walk that no barrier bars
abbrev pub Suspect : ℕ → Listing → ℕ → ℕ → Type 0
Suspect q L a b = OnChain L a b × Clear q L a b

-- the rows that the failing-pair test and the chain to show start from
pub record Ready (q : ℕ) (bytes p m c : List ℕ) : Type 0 where
  pub pairs : Holds p (count_n bytes) (Pair (nodes_of bytes))
  pub meetings : Holds m (count_n bytes) (Meeting (nodes_of bytes))
  pub suspects : Holds c (count_n bytes) (Suspect q (nodes_of bytes))
