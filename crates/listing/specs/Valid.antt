-- Serves only theorems (formed_valid, valid_formed, the round trip): a listing's form, said of the heading (rules 2 to 7) and of the nodes (8 to 12).
use Rattle.std.specs.Prelude.{◌≡◌, ◌≢◌, ◌⊎◌, List, ℕ, ◌≤◌, ◌<◌, length, T}
use Rattle.listing.specs.Limits.{ROUTINES, NODES, HEADING}
use Rattle.listing.specs.Kinds.{is_version, kinds_of, has_no_location}
use Rattle.listing.specs.Node.{Node, none, Listing, node}
use Rattle.listing.specs.Bytes.{byte, version_of, count_f, count_n, record_at}

-- a heading that no rule from 2 to 7 refuses
pub record Headed (s : List ℕ) : Type 0 where
  pub long : HEADING ≤ length s
  pub mark₀ : byte s 0 ≡ 0x4F
  pub mark₁ : byte s 1 ≡ 0x52
  pub mark₂ : byte s 2 ≡ 0x44
  pub version : T (is_version (version_of s))
  pub some : 1 ≤ count_f s
  pub routines : count_f s ≤ ROUTINES
  pub nodes : count_n s ≤ NODES
  pub exact : length s ≡ record_at (count_n s)

-- a successor x of the node n: "255 means none", else it is "below N" and of n's routine
abbrev pub Goes : Listing → Node → ℕ → Type 0
Goes L n x = (x ≡ none) ⊎ ((x < length L) × ((node L x).routine ≡ n.routine))

-- a node that no rule from 8 to 12 refuses, in a listing of version v and f routines
pub record NodeOk (v f : ℕ) (L : Listing) (n : Node) : Type 0 where
  pub routine : n.routine < f
  pub kind : n.kind < kinds_of v
  pub location : T (has_no_location n.kind) → n.location ≡ 0
  pub first : Goes L n n.first
  pub second : Goes L n n.second
  pub order : (n.second ≡ none) ⊎ ((n.first ≢ none) × (n.first < n.second))

-- every node is such a one
abbrev pub Valid : ℕ → ℕ → Listing → Type 0
Valid v f L = (a : ℕ) → a < length L → NodeOk v f L (node L a)
