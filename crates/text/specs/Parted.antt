-- Serves only a theorem (text_parted): which nodes a part has.
use Rattle.std.specs.Prelude.{◌≡◌, ◌↔◌, ℕ, ◌+◌, ◌<◌, ◌≤◌}
use Rattle.listing.specs.Node.{node}
use Rattle.grammar.specs.Tree.{Block, Text, part, block_size, parts_of, size_of, nodes_of}

-- the parts of u are the first parts of t
pub data StartsWith : Text → Text → Type 0 where
  whole : {t : Text} → StartsWith t t
  cut : {t u : Text} {b : Block} → StartsWith t u → StartsWith (part t b) u

-- part p is routine p and has its nodes in one row: of a text that begins with the parts of u and then the part b, a node is of the
-- routine with u's number of parts exactly if it is one of the `block_size b` nodes right after u's
abbrev pub PartsInRows : Text → Type 0
PartsInRows t = (u : Text) (b : Block) → StartsWith t (part u b) → (a : ℕ) → a < size_of t
    → ((node (nodes_of t) a).routine ≡ parts_of u) ↔ ((size_of u ≤ a) × (a < size_of u + block_size b))
