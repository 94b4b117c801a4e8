-- Showing the chain of a pair: what it stands on, and what it leaves.
use Rattle.std.specs.Prelude.{◌≡◌, List, ◌∷◌, ℕ, length}
use Rattle.listing.specs.Node.{Listing}
use Rattle.listing.specs.Bytes.{count_n, nodes_of}
use Rattle.listing.specs.Inner.Whole.{Whole}
use Rattle.listing.specs.Answer.{filled}
use Rattle.order.specs.Walks.{Pair}
use Rattle.order.specs.Chains.{Ends}
use Rattle.order.specs.Verdict.{Shown}
use Rattle.rows.specs.Inner.Rows.{Holds}
use Rattle.meetings.specs.Inner.Meeting.{Meeting}
use Rattle.suspects.specs.Inner.Suspect.{OnChain}
use Rattle.verdict.specs.Judging.{chain_bytes}

-- which pair of which listing's bytes
pub record PairOf : Type 0 where
  pub bytes : List ℕ
  pub first : ℕ
  pub second : ℕ

-- the rows p keep the pairs of the listing's bytes, the rows m who meets whom, and (a, b) lies on a chain
pub record Chained (bytes p m : List ℕ) (a b : ℕ) : Type 0 where
  pub whole : Whole bytes
  pub pairs : Holds p (count_n bytes) (Pair (nodes_of bytes))
  pub meetings : Holds m (count_n bytes) (Meeting (nodes_of bytes))
  pub chain : OnChain (nodes_of bytes) a b

-- the pairs that follow (a, b) on the chain to show stand at the buffer's start, and there are k of them
pub record Followed (L : Listing) (a b : ℕ) (old new : List ℕ) (k : ℕ) : Type 0 where
  pub rest : List Ends
  pub shown : Shown L (a, b) rest
  pub count : k ≡ length rest
  pub bytes : new ≡ filled (chain_bytes rest) old

-- the chain to show of (a, b) stands at the buffer's start, and k is the number of its pairs
pub record Showed (L : Listing) (a b : ℕ) (old new : List ℕ) (k : ℕ) : Type 0 where
  pub rest : List Ends
  pub shown : Shown L (a, b) rest
  pub count : k ≡ length ((a, b) ∷ rest)
  pub bytes : new ≡ filled (chain_bytes ((a, b) ∷ rest)) old
