-- A typed text as a tree: its words, how deep it goes, and its nodes.
use Rattle.std.specs.Prelude.{cond, List, [], ◌∷◌, ◌++◌, ℕ, ◌+◌, ◌-◌, ◌<◌, ltb}
use Rattle.listing.specs.Kinds.{PLAIN, FENCE}
use Rattle.listing.specs.Node.{Node, none, Listing}
use Rattle.words.specs.Words.{Token, Routine, Loop, Either, Open, Close, Fence, Access, Number}

-- "a block contains items, and an item may contain blocks"
mutual
  -- "An item is `r`, `w` or `u` (RMW) then a location number [..], `f`, `loop { block }`, or `either { block } { block }`": an access has
  -- its kind and its location
  pub data Item : Type 0 where
    access : ℕ → ℕ → Item
    fence : Item
    loop : Block → Item
    either : Block → Block → Item

  -- "No block is empty": an item, or a block and one item more
  pub data Block : Type 0 where
    one : Item → Block
    also : Block → Item → Block

-- "a text of parts `routine { block }`"
pub data Text : Type 0 where
  nothing : Text
  part : Text → Block → Text

-- ── Words ───────────────────────────────────────────────────────────────────
-- what the words of an item say, one by one: "`r`, `w` or `u` (RMW) then a location number [..], `f`, `loop { block }`, or
-- `either { block } { block }`"; and of a block
unfoldable mutual
  pub item_words : Item → List Token
  item_words (access k l) = Access k ∷ Number l ∷ []
  item_words fence = Fence ∷ []
  item_words (loop b) = Loop ∷ Open ∷ (block_words b ++ (Close ∷ []))
  item_words (either b c) = Either ∷ Open ∷ (block_words b ++ (Close ∷ Open ∷ (block_words c ++ (Close ∷ []))))

  pub block_words : Block → List Token
  block_words (one i) = item_words i
  block_words (also b i) = block_words b ++ item_words i

-- and of a tree: "parts `routine { block }`"
abbrev pub words_of : Text → List Token
words_of nothing = []
words_of (part t b) = words_of t ++ (Routine ∷ Open ∷ (block_words b ++ (Close ∷ [])))

-- ── Depth ───────────────────────────────────────────────────────────────────
-- "at most 8 deep"
abbrev pub DEPTH : ℕ
DEPTH = 8

-- "(`loop` and `either` count; a ninth can't stand)": at most d deep
unfoldable mutual
  pub ItemWithin : Item → ℕ → Type 0
  ItemWithin (access k l) d = Unit
  ItemWithin fence d = Unit
  ItemWithin (loop b) d = (0 < d) × BlockWithin b (d - 1)
  ItemWithin (either b c) d = (0 < d) × BlockWithin b (d - 1) × BlockWithin c (d - 1)

  pub BlockWithin : Block → ℕ → Type 0
  BlockWithin (one i) d = ItemWithin i d
  BlockWithin (also b i) d = BlockWithin b d × ItemWithin i d

abbrev pub TextWithin : Text → Type 0
TextWithin nothing = Unit
TextWithin (part t b) = TextWithin t × BlockWithin b DEPTH

-- ── How many ────────────────────────────────────────────────────────────────
-- nodes
unfoldable mutual
  pub item_size : Item → ℕ
  item_size (access k l) = 1
  item_size fence = 1
  item_size (loop b) = block_size b + 1
  item_size (either b c) = block_size b + block_size c + 2

  pub block_size : Block → ℕ
  block_size (one i) = item_size i
  block_size (also b i) = block_size b + item_size i

abbrev pub size_of : Text → ℕ
size_of nothing = 0
size_of (part t b) = size_of t + block_size b

-- parts
abbrev pub parts_of : Text → ℕ
parts_of nothing = 0
parts_of (part t b) = parts_of t + 1

-- ── Nodes ───────────────────────────────────────────────────────────────────
abbrev pub made : ℕ → ℕ → ℕ → ℕ → ℕ → Node
made r k l a b = record { routine = r; kind = k; location = l; first = a; second = b }

-- "Of two successors the smaller is written first"; none, 255, is larger than any node
abbrev pub plain : ℕ → ℕ → ℕ → Node
plain r a b = cond (ltb a b) (made r PLAIN 0 a b) (made r PLAIN 0 b a)

-- "Nodes are numbered in text order": the nodes of an item or a block of routine r whose first node has the number n and whose end
-- leads to `next`
unfoldable mutual
  pub item_nodes : Item → ℕ → ℕ → ℕ → Listing
  item_nodes (access k l) r n next = made r k l next none ∷ []
  item_nodes fence r n next = made r FENCE 0 next none ∷ []
  -- "A loop is a plain node that leads to its body and to what follows; the body's end leads back"
  item_nodes (loop b) r n next = plain r (n + 1) next ∷ block_nodes b r (n + 1) n
  -- "An either is a plain node leading to both blocks, whose ends meet in a plain node numbered after both"
  item_nodes (either b c) r n next =
      plain r (n + 1) (n + 1 + block_size b)
      ∷ (block_nodes b r (n + 1) (n + 1 + block_size b + block_size c)
      ++ (block_nodes c r (n + 1 + block_size b) (n + 1 + block_size b + block_size c)
      ++ (made r PLAIN 0 next none ∷ [])))

  -- "What follows an item is the next item of its block, and after the last one what follows the block's end"
  pub block_nodes : Block → ℕ → ℕ → ℕ → Listing
  block_nodes (one i) r n next = item_nodes i r n next
  block_nodes (also b i) r n next = block_nodes b r n (n + block_size b) ++ item_nodes i r (n + block_size b) next

-- "A routine's end leads nowhere": part p is routine p
abbrev pub nodes_of : Text → Listing
nodes_of nothing = []
nodes_of (part t b) = nodes_of t ++ block_nodes b (parts_of t) (size_of t) none
