-- An item, a block and a text have as many nodes as their sizes say.
use mathlib.Core.Path.{◌≡◌, refl}
use Prim.Native.Nat.{ℕ, ◌+◌}
use native.Mathlib.Omega.{arith}
use lib.ListN.{length, length-append}
use Rattle.listing.specs.Node.{none}
use Rattle.grammar.specs.Tree.{Item, access, fence, loop, either, Block, one, also, Text, nothing, part}
use Rattle.grammar.specs.Tree.{parts_of, size_of, nodes_of, item_size, block_size, item_nodes, block_nodes}

mutual
  unfolding item_nodes block_nodes item_size block_size

  pub item_count : (i : Item) (r n next : ℕ) → length (item_nodes i r n next) ≡ item_size i
  item_count (access k l) r n next = refl
  item_count fence r n next = refl
  item_count (loop b) r n next = let e = block_count b r (n + 1) n in omega arith
  item_count (either b c) r n next =
      let e = block_count b r (n + 1) (n + 1 + block_size b + block_size c) in
      let f = block_count c r (n + 1 + block_size b) (n + 1 + block_size b + block_size c) in
      simp length-append (omega arith)

  pub block_count : (b : Block) (r n next : ℕ) → length (block_nodes b r n next) ≡ block_size b
  block_count (one i) r n next = item_count i r n next
  block_count (also b i) r n next =
      let e = block_count b r n (n + block_size b) in
      let f = item_count i r (n + block_size b) next in
      simp length-append (omega arith)

-- A TEXT HAS AS MANY NODES AS ITS SIZE SAYS
pub text_count : (t : Text) → length (nodes_of t) ≡ size_of t
text_count nothing = refl
text_count (part t b) =
    let e = text_count t in
    let f = block_count b (parts_of t) (size_of t) none in
    simp length-append (omega arith)
