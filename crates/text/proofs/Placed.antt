-- The nodes of a part are of its routine, and lead nowhere or to a node of the part, the smaller of two successors first.
use mathlib.Core.Path.{◌≡◌, refl}
use mathlib.Core.Logic.{◌⊎◌, inl, inr}
use Prim.Native.Nat.{ℕ, ◌+◌, ◌<◌, ◌≤◌}
use native.Mathlib.Omega.{arith}
use Rattle.listing.specs.Kinds.{PLAIN, FENCE}
use Rattle.listing.specs.Node.{Node, none}
use Rattle.order.specs.Rows.{All}
use Rattle.grammar.specs.Tree.{Item, access, fence, loop, either, Block, one, also, item_size, block_size, item_nodes, block_nodes, made, plain}
use Rattle.grammar.proofs.Sizes.{item_some, block_some}
use Rattle.text.proofs.Every.{of_plain, either_all, also_all}

-- x is a node from lo up to hi
abbrev pub Among : ℕ → ℕ → ℕ → Type 0
Among lo hi x = (lo ≤ x) × (x < hi)

abbrev pub Leads : ℕ → ℕ → ℕ → Type 0
Leads lo hi x = (x ≡ none) ⊎ Among lo hi x

-- a node of routine r, whose nodes stand from lo up to hi
pub record Placed (r lo hi : ℕ) (m : Node) : Type 0 where
  pub routine : m.routine ≡ r
  pub first : Leads lo hi m.first
  pub second : Leads lo hi m.second
  pub order : (m.second ≡ none) ⊎ (m.first < m.second)

-- x is none of the `size` nodes from n on
abbrev Out : ℕ → ℕ → ℕ → Type 0
Out n size x = (x < n) ⊎ (n + size ≤ x)

-- an item or a block of `size` nodes stands from node n on, and its end leads out of it
record Lies (lo hi n size next : ℕ) : Type 0 where
  low : lo ≤ n
  high : n + size ≤ hi
  leads : Leads lo hi next
  out : Out n size next

-- what follows a loop is not its body
not_body : (n b next : ℕ) → 1 ≤ b → Out n (b + 1) next → next ≡ n + 1 → ⊥
not_body n b next h (inl o) e = omega arith
not_body n b next h (inr o) e = omega arith

out_later : (n b i next : ℕ) → Out n (b + i) next → Out (n + b) i next
out_later n b i next (inl o) = inl (omega arith)
out_later n b i next (inr o) = inr (omega arith)

module _ (r lo hi : ℕ) where
  single_placed : (k l next : ℕ) → Leads lo hi next → Placed r lo hi (made r k l next none)
  single_placed k l next s = record { routine = refl; first = s; second = inl refl; order = inl refl }

  plain_placed : (a b : ℕ) → Among lo hi a → Leads lo hi b → (b ≡ a → ⊥) → Placed r lo hi (plain r a b)
  plain_placed a b ha hb apart =
      of_plain (Placed r lo hi) r a b
      (λ l. record { routine = refl; first = inr ha; second = hb; order = inr l })
      (λ l. record { routine = refl; first = hb; second = inr ha; order = inr (omega arith) })

  -- an end that leads to a later node, and a body's that leads back
  onward : (n size next : ℕ) → lo ≤ n → n + size ≤ next → next < hi → Lies lo hi n size next
  onward n size next a b c = record { low = a; high = omega arith; leads = inr (omega arith, c); out = inr b }

  back : (n size : ℕ) → lo ≤ n → n + (size + 1) ≤ hi → Lies lo hi (n + 1) size n
  back n size a b = record { low = omega arith; high = omega arith; leads = inr (a, omega arith); out = inl (omega arith) }

  mutual
    unfolding item_nodes block_nodes item_size block_size

    item_placed : (i : Item) (n next : ℕ) → Lies lo hi n (item_size i) next → All (Placed r lo hi) (item_nodes i r n next)
    item_placed (access k l) n next at = (single_placed k l next at.leads, tt)
    item_placed fence n next at = (single_placed FENCE 0 next at.leads, tt)
    item_placed (loop b) n next at =
        let some : 1 ≤ block_size b = block_some b in
        let apart = not_body n (block_size b) next some at.out in
        (plain_placed (n + 1) next (omega arith, omega arith) at.leads apart, block_placed b (n + 1) n (back n (block_size b) at.low (omega arith)))
    item_placed (either b c) n next at =
        let sb : 1 ≤ block_size b = block_some b in
        let sc : 1 ≤ block_size c = block_some c in
        let m = n + 1 + block_size b in
        let end = m + block_size c in
        either_all (Placed r lo hi) r n next b c
        (plain_placed (n + 1) m (omega arith, omega arith) (inr (omega arith, omega arith)) (λ e. omega arith))
        (block_placed b (n + 1) end (onward (n + 1) (block_size b) end (omega arith) (omega arith) (omega arith)))
        (block_placed c m end (onward m (block_size c) end (omega arith) (omega arith) (omega arith)))
        (single_placed PLAIN 0 next at.leads)

    block_placed : (b : Block) (n next : ℕ) → Lies lo hi n (block_size b) next → All (Placed r lo hi) (block_nodes b r n next)
    block_placed (one i) n next at = item_placed i n next at
    block_placed (also b i) n next at =
        let some : 1 ≤ item_size i = item_some i in
        let m = n + block_size b in
        let out = out_later n (block_size b) (item_size i) next at.out in
        also_all (Placed r lo hi) r n next b i
        (block_placed b n m (onward n (block_size b) m (omega arith) (omega arith) (omega arith)))
        (item_placed i m next (record { low = omega arith; high = omega arith; leads = at.leads; out = out }))

-- THE NODES OF A PART, whose end leads nowhere
pub part_placed : (b : Block) (r n : ℕ) → n + block_size b ≤ none → All (Placed r n (n + block_size b)) (block_nodes b r n none)
part_placed b r n few = block_placed r n (n + block_size b) b n none (record { low = omega arith; high = omega arith; leads = inl refl; out = inr few })
