-- A listing's bytes: where its numbers stand, the nodes that they hold, and the bytes of given nodes.
use Rattle.std.specs.Prelude.{List, [], ◌∷◌, ◌++◌, ℕ, zero, suc, ◌+◌, ◌*◌, ◌/◌, ◌%◌, length, get_or}
use Rattle.listing.specs.Limits.{HEADING, RECORD}
use Rattle.listing.specs.Node.{Node, Listing}

-- byte i
abbrev pub byte : List ℕ → ℕ → ℕ
byte s i = get_or s i 0

-- "Numbers of two bytes are little-endian"
abbrev pub word : ℕ → ℕ → ℕ
word low high = low + 256 * high

-- "a 16-bit version"
abbrev pub version_of : List ℕ → ℕ
version_of s = word (byte s 3) (byte s 4)

-- "the routine count F"
abbrev pub count_f : List ℕ → ℕ
count_f s = byte s 5

-- "the node count N"
abbrev pub count_n : List ℕ → ℕ
count_n s = byte s 6

-- where node i's record starts; "the whole is exactly 7 + 6N bytes" says that it ends where node N's would start
abbrev pub record_at : ℕ → ℕ
record_at i = HEADING + RECORD * i

-- "routine (1 byte), kind (1), location (2), first successor (1), second successor (1)", from place o on
abbrev pub node_from : List ℕ → ℕ → Node
node_from s o = record {
  routine = byte s o;
  kind = byte s (o + 1);
  location = word (byte s (o + 2)) (byte s (o + 3));
  first = byte s (o + 4);
  second = byte s (o + 5);
}

-- node i
abbrev pub node_at : List ℕ → ℕ → Node
node_at s i = node_from s (record_at i)

-- k records from place o on
abbrev pub nodes_from : List ℕ → ℕ → ℕ → Listing
nodes_from s o zero = []
nodes_from s o (suc k) = node_from s o ∷ nodes_from s (o + RECORD) k

-- the nodes that the bytes hold
unfoldable pub nodes_of : List ℕ → Listing
nodes_of s = nodes_from s HEADING (count_n s)

-- "the mark `ORD` (4F 52 44), a 16-bit version [..], the routine count F [..], the node count N"
abbrev pub heading_bytes : ℕ → ℕ → ℕ → List ℕ
heading_bytes v f n = 0x4F ∷ 0x52 ∷ 0x44 ∷ v % 256 ∷ v / 256 ∷ f ∷ n ∷ []

-- a node's six bytes
abbrev pub node_bytes : Node → List ℕ
node_bytes n = n.routine ∷ n.kind ∷ n.location % 256 ∷ n.location / 256 ∷ n.first ∷ n.second ∷ []

abbrev pub nodes_bytes : Listing → List ℕ
nodes_bytes [] = []
nodes_bytes (n ∷ ns) = node_bytes n ++ nodes_bytes ns

-- the bytes of a listing of version v and f routines
unfoldable pub bytes_of : ℕ → ℕ → Listing → List ℕ
bytes_of v f L = heading_bytes v f (length L) ++ nodes_bytes L
