-- Serves only theorems (patched_fenced, fenced_unique, reads_back): a listing with fences put in, said number by number, and what the writer leaves.
use Rattle.std.specs.Prelude.{◌≡◌, true, false, List, ℕ, ◌+◌, ◌≤◌, ◌<◌, length, take, drop}
use Rattle.listing.specs.Kinds.{FENCE}
use Rattle.listing.specs.Node.{Node, none, Listing, node}
use Rattle.listing.specs.Bytes.{version_of, count_f, nodes_of}
use Rattle.order.specs.Patched.{Marks, marked, places}
use Rattle.reader.specs.Read.{Admitted}
use Rattle.fencing.specs.Marks.{marks_of}

-- "Fences are numbered from N upward in the order of the nodes they follow": the fence after a comes after those of the marks before a
abbrev pub fence_number : Listing → Marks → ℕ → ℕ
fence_number L ms a = length L + places (take a ms)

-- the old node n and the node m of the same number: "old nodes keep number, routine, kind and location"
pub record Keeps (n m : Node) : Type 0 where
  pub routine : m.routine ≡ n.routine
  pub kind : m.kind ≡ n.kind
  pub location : m.location ≡ n.location

-- "A fence after node n has n's routine and n's old successors", and its "location is 0"
pub record FenceAfter (n m : Node) : Type 0 where
  pub routine : m.routine ≡ n.routine
  pub kind : m.kind ≡ FENCE
  pub location : m.location ≡ 0
  pub first : m.first ≡ n.first
  pub second : m.second ≡ n.second

-- M is L with a fence after each node that ms marks, and nothing else
pub record Fenced (L : Listing) (ms : Marks) (M : Listing) : Type 0 where
  pub count : length M ≡ length L + places ms
  pub keeps : (a : ℕ) → a < length L → Keeps (node L a) (node M a)
  pub unmarked : (a : ℕ) → a < length L → marked ms a ≡ false → ((node M a).first ≡ (node L a).first) × ((node M a).second ≡ (node L a).second)
  pub leads : (a : ℕ) → a < length L → marked ms a ≡ true → ((node M a).first ≡ fence_number L ms a) × ((node M a).second ≡ none)
  pub fence : (a : ℕ) → a < length L → marked ms a ≡ true → FenceAfter (node L a) (node M (fence_number L ms a))
  pub only : (x : ℕ) → length L ≤ x → x < length M → (a : ℕ) × (a < length L) × (marked ms a ≡ true) × (fence_number L ms a ≡ x)

-- the first r bytes of `out` are s with the map's fences put in, and "Bytes beyond these ends keep their values"
pub record Written (s bytes old out : List ℕ) (r : ℕ) : Type 0 where
  pub admitted : Admitted (take r out)
  pub version : version_of (take r out) ≡ version_of s
  pub routines : count_f (take r out) ≡ count_f s
  pub fenced : Fenced (nodes_of s) (marks_of bytes) (nodes_of (take r out))
  pub rest : drop r out ≡ drop r old
