-- What holds of every entry: of two lists put together, of the entry with a number; of a plain node, and of the nodes of an either and of a block.
use mathlib.Core.Path.{◌≡◌, refl}
use mathlib.Core.Bool.{Bool, true, false, cond}
use mathlib.Core.List.{List, [], ◌∷◌, ◌++◌}
use Prim.Native.Nat.{ℕ, zero, suc, ◌+◌, ◌<◌, ◌≤◌}
use native.Mathlib.Omega.{arith}
use lib.Dec.{ltb}
use lib.ListN.{length, get_or}
use borrow.Author.Tests.{ltb-true, ltb-false}
use Rattle.listing.specs.Kinds.{PLAIN}
use Rattle.listing.specs.Node.{Node, none}
use Rattle.order.specs.Rows.{All}
use Rattle.grammar.specs.Tree.{Item, either, Block, also, block_size, item_nodes, block_nodes, made, plain}

module _ {A : Type 0} (p : A → Type 0) where
  pub all_both : (xs ys : List A) → All p xs → All p ys → All p (xs ++ ys)
  all_both [] ys h k = k
  all_both (x ∷ xs) ys h k = (h.0, all_both xs ys h.1 k)

  pub all_apart : (xs ys : List A) → All p (xs ++ ys) → All p xs × All p ys
  all_apart [] ys h = (tt, h)
  all_apart (x ∷ xs) ys h = let r = all_apart xs ys h.1 in ((h.0, r.0), r.1)

  pub all_at : (xs : List A) → All p xs → (d : A) (j : ℕ) → j < length xs → p (get_or xs j d)
  all_at [] h d j l = absurd (omega arith)
  all_at (x ∷ xs) h d zero l = h.0
  all_at (x ∷ xs) h d (suc j) l = all_at xs h.1 d j (omega arith)

-- a plain node has the smaller of its two successors first
pub of_plain : (p : Node → Type 0) (r a b : ℕ) → (a < b → p (made r PLAIN 0 a b)) → (b ≤ a → p (made r PLAIN 0 b a)) → p (plain r a b)
of_plain p r a b f g = go (ltb a b) refl
  where
    go : (t : Bool) → ltb a b ≡ t → p (cond t (made r PLAIN 0 a b) (made r PLAIN 0 b a))
    go true e = f (ltb-true a b e)
    go false e = g (ltb-false a b e)

module _ (p : Node → Type 0) (r n next : ℕ) where
  -- an either: its plain node, both blocks, and the node where their ends meet
  pub either_all : (b c : Block) → p (plain r (n + 1) (n + 1 + block_size b))
      → All p (block_nodes b r (n + 1) (n + 1 + block_size b + block_size c))
      → All p (block_nodes c r (n + 1 + block_size b) (n + 1 + block_size b + block_size c))
      → p (made r PLAIN 0 next none) → All p (item_nodes (either b c) r n next)
  unfolding item_nodes
  either_all b c h x y k =
      let end = n + 1 + block_size b + block_size c in
      (h, all_both p (block_nodes b r (n + 1) end) _ x (all_both p (block_nodes c r (n + 1 + block_size b) end) _ y (k, tt)))

  -- a block: the items before, whose end leads to the last one, and that
  pub also_all : (b : Block) (i : Item) → All p (block_nodes b r n (n + block_size b)) → All p (item_nodes i r (n + block_size b) next)
      → All p (block_nodes (also b i) r n next)
  unfolding block_nodes
  also_all b i x y = all_both p (block_nodes b r n (n + block_size b)) _ x y
