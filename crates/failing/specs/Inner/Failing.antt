-- The search for failing pairs: what it is given, and what it finds.
use Rattle.std.specs.Prelude.{ℕ, ◌≤◌, ◌<◌, List, Option, Some, None}
use Rattle.listing.specs.Node.{Listing}
use Rattle.listing.specs.Bytes.{count_n, nodes_of}
use Rattle.listing.specs.Inner.Whole.{Whole}
use Rattle.order.specs.Walks.{Pair}
use Rattle.order.specs.Need.{Asked}
use Rattle.order.specs.Verdict.{Fails, Before}
use Rattle.rows.specs.Inner.Rows.{Holds}
use Rattle.meetings.specs.Inner.Meeting.{Meeting}
use Rattle.suspects.specs.Inner.Suspect.{Suspect, Exchanged}
use Rattle.failing.specs.declared.search.Found.{Found}

-- what a search is about: the question's number, and the listing's bytes
pub record AskedOf : Type 0 where
  pub question : ℕ
  pub bytes : List ℕ

-- a question that can be asked, a listing's bytes, the rows of its suspects, and the rows of an RMW inside
pub record Prepared (q : ℕ) (bytes c i : List ℕ) : Type 0 where
  pub whole : Whole bytes
  pub asked : Asked q
  pub suspects : Holds c (count_n bytes) (Suspect q (nodes_of bytes))
  pub exchanged : Holds i (count_n bytes) (Exchanged (nodes_of bytes))

-- beside them the rows of the pairs and of who meets whom, from which a chain is found
pub record Laid (q : ℕ) (bytes p m c i : List ℕ) : Type 0 where
  pub pairs : Holds p (count_n bytes) (Pair (nodes_of bytes))
  pub meetings : Holds m (count_n bytes) (Meeting (nodes_of bytes))
  pub prepared : Prepared q bytes c i

-- (x, y) is the first failing pair from (a, b) on; x is n where there is none
pub record NextFailing (q : ℕ) (L : Listing) (n a b x y : ℕ) : Type 0 where
  pub low : x ≤ n
  pub here : x < n → Fails q L x y
  pub from : x < n → Before (x, y) (a, b) → ⊥
  pub none : (c d : ℕ) → Fails q L c d → (Before (c, d) (a, b) → ⊥) → Before (c, d) (x, y) → ⊥

-- the same of an answer that says by none that there is no such pair
abbrev pub NextIfAny : ℕ → Listing → ℕ → ℕ → ℕ → Option Found → Type 0
NextIfAny q L n a b (Some p) = (p.first < n) × NextFailing q L n a b p.first p.second
NextIfAny q L n a b None = NextFailing q L n a b n 0
