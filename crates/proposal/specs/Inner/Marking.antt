-- What drawing up a map comes to, node by node.
use Rattle.std.specs.Prelude.{◌≡◌, ◌⊎◌, List, ℕ, ◌≤◌, ◌<◌, length, get_or}
use Rattle.listing.specs.Node.{Listing}
use Rattle.listing.specs.Bytes.{count_n}
use Rattle.order.specs.Verdict.{Fails}

-- "a 1 for the first node of every failing pair and 0 elsewhere": x is node a's byte
abbrev pub MarkOf : ℕ → Listing → ℕ → ℕ → Type 0
MarkOf q L a x = ((x ≡ 1) × ((b : ℕ) × Fails q L a b)) ⊎ ((x ≡ 0) × ((b : ℕ) → Fails q L a b → ⊥))

-- the first n bytes are their nodes' marks
abbrev pub Marked : ℕ → Listing → List ℕ → ℕ → Type 0
Marked q L marks n = (a : ℕ) → a < n → MarkOf q L a (get_or marks a 0)

-- a map of the listing s: "one byte a node", 0 or 1
pub record Drawn (s marks : List ℕ) : Type 0 where
  pub each : length marks ≡ count_n s
  pub bytes : (a : ℕ) → a < length marks → get_or marks a 0 ≤ 1
