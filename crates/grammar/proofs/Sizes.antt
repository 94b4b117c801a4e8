-- How many nodes items and blocks have: none is without a node.
use mathlib.Core.Path.{◌≡◌, refl}
use Prim.Native.Nat.{◌+◌, ◌≤◌}
use native.Mathlib.Omega.{arith}
use Rattle.grammar.specs.Tree.{Item, access, fence, loop, either, Block, one, also, item_size, block_size}
use Rattle.grammar.specs.Inner.Reader.{SoFar, none, some, and, before_size}

-- one item more
pub and_size : (x : SoFar) (i : Item) → before_size (and x i) ≡ before_size x + item_size i
unfolding block_size
and_size none i = omega arith
and_size (some b) i = refl

-- NO ITEM AND NO BLOCK IS WITHOUT A NODE
mutual
  unfolding item_size block_size

  pub item_some : (i : Item) → 1 ≤ item_size i
  item_some (access k n) = omega arith
  item_some fence = omega arith
  item_some (loop b) = omega arith
  item_some (either b c) = omega arith

  pub block_some : (b : Block) → 1 ≤ block_size b
  block_some (one i) = item_some i
  block_some (also b i) = let h : 1 ≤ block_size b = block_some b in omega arith
