-- What the code that puts records says: they stand in the buffer, if there is room for them.
use Rattle.std.specs.Prelude.{◌≡◌, List, [], ◌∷◌, ℕ, ◌+◌, ◌≤◌, ◌<◌, length}
use Rattle.std.proofs.lemmas.List.Edits.{sets}
use Rattle.listing.specs.Limits.{NODES}
use Rattle.listing.specs.Node.{Node, none, Listing}
use Rattle.listing.specs.Bytes.{record_at, nodes_bytes}
use Rattle.order.specs.Rows.{All}
use Rattle.grammar.specs.Tree.{made}

-- each number of a node but its location is a byte
pub record Low (m : Node) : Type 0 where
  pub routine : m.routine < 256
  pub kind : m.kind < 256
  pub first : m.first < 256
  pub second : m.second < 256

-- a buffer has room for k nodes
pub record Room (k : ℕ) (out : List ℕ) : Type 0 where
  pub few : k ≤ NODES
  pub long : record_at k ≤ length out

-- a buffer that held `old` holds the records of L from node n on
pub record HoldsNodes (old new : List ℕ) (n : ℕ) (L : Listing) : Type 0 where
  pub bytes : new ≡ sets old (record_at n) (nodes_bytes L)

-- the nodes L are put from node n on, if there is room for them and their numbers are bytes
pub record WroteNodes (old new : List ℕ) (n : ℕ) (L : Listing) : Type 0 where
  pub kept : length new ≡ length old
  pub bytes : Room (n + length L) old → All Low L → HoldsNodes old new n L

-- one node, which leads to `next` alone
abbrev pub alone : ℕ → ℕ → ℕ → ℕ → Listing
alone r k l next = made r k l next none ∷ []
