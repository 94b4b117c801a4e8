-- A listing with the number of its nodes, few enough for rows of bits.
use mathlib.Core.Path.{◌≡◌, sym}
use mathlib.Core.Logic.{inr}
use mathlib.Core.List.{List}
use Prim.Native.Nat.{ℕ, ◌≤◌, ◌<◌}
use native.Mathlib.Omega.{arith}
use lib.ListN.{length}
use Rattle.listing.specs.Node.{Listing}
use Rattle.listing.specs.Bytes.{count_n, nodes_of}
use Rattle.listing.specs.Inner.Whole.{Whole}
use Rattle.listing.proofs.Nodes.{nodes_length}
use Rattle.order.specs.Rows.{In}
use Rattle.order.specs.Walks.{Access, Walk}
use Rattle.order.proofs.Laws.{access_in, walk_in}
use Rattle.rows.specs.Inner.Rows.{Holds, Low}

-- L has n nodes, and a row has a bit for each
pub record Counted (L : Listing) (n : ℕ) : Type 0 where
  pub size : n ≡ length L
  pub small : n ≤ 128

module _ {L : Listing} {n : ℕ} (few : Counted L n) where
  pub access_below : (a : ℕ) → Access L a → a < n
  access_below a h = omega (arith, access_in L a h)

  pub inside_below : (a : ℕ) (inside : List ℕ) (b : ℕ) → Walk L a inside b → (c : ℕ) → In c inside → c < n
  inside_below a inside b w c i = omega (arith, walk_in L a inside b w c (inr i))

-- rows that keep a relation among k nodes have no bit outside them
pub low_at : {w : List ℕ} {k n : ℕ} {A : ℕ → ℕ → Type 0} → n ≡ k → Holds w k A → Low n w
low_at e h a b l g = let x = h.sound a b l g in (omega (arith, x.0), omega (arith, x.1))

-- EVERY LISTING THAT IS READ IS COUNTED
pub counted : {bytes : List ℕ} → Whole bytes → Counted (nodes_of bytes) (count_n bytes)
counted {bytes} whole = record { size = sym (nodes_length bytes); small = whole.few }
