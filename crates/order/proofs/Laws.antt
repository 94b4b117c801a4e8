-- Laws of the definitions: what the rest of the theory uses of walks, accesses and barriers. Those of meeting stand in Meeting.antt.
use mathlib.Core.Path.{◌≡◌, subst}
use mathlib.Core.Logic.{inl, inr}
use mathlib.Core.HLevel.{×_discrete}
use mathlib.Core.List.{List, [], ◌∷◌}
use Prim.Native.Nat.{ℕ, ◌≤◌, ◌<◌}
use native.Mathlib.Decide.{dec_lt, ℕ_discrete}
use native.Mathlib.Omega.{arith}
use lib.Dec.{T}
use lib.ListN.{length, get_or-eq_default}
use Rattle.listing.specs.Kinds.{PLAIN, FENCE}
use Rattle.listing.specs.Node.{Node, blank, Listing, node}
use Rattle.order.specs.Rows.{In}
use Rattle.order.specs.Walks.{is_access, Access, Walk}
use Rattle.order.specs.Chains.{Ends}
use Rattle.order.specs.Need.{Question, sc_on_x86, sc_on_armv7, x86_on_armv7, armv8_on_armv7, sc_on_armv8, x86_on_armv8, bars}

pub ends_eq : Discrete Ends
ends_eq = ×_discrete ℕ_discrete ℕ_discrete

blank_past : (L : Listing) (a : ℕ) → length L ≤ a → node L a ≡ blank
blank_past L a h = get_or-eq_default L blank h

-- an access is a node
pub access_in : (L : Listing) (a : ℕ) → Access L a → a < length L
access_in L a t = go (dec_lt a (length L))
  where
    go : Dec (a < length L) → a < length L
    go (yes h) = h
    go (no n) = absurd (subst (λ (x : Node). T (is_access x.kind)) (blank_past L a (omega arith)) t)

-- the ends of a walk, and the nodes inside it, are nodes
pub walk_in : (L : Listing) (a : ℕ) (xs : List ℕ) (b : ℕ) → Walk L a xs b → (x : ℕ) → In x (a ∷ xs) → x < length L
walk_in L a [] b w x (inl e) = omega (arith, e, w.0)
walk_in L a [] b w x (inr i) = absurd i
walk_in L a (c ∷ xs) b w x (inl e) = omega (arith, e, w.0.0)
walk_in L a (c ∷ xs) b w x (inr i) = walk_in L c xs b w.1 x i

-- a full fence is a barrier under every question, whatever the ends
pub bars_fence : (q : Question) (k₁ k₂ : ℕ) → T (bars q k₁ k₂ FENCE)
bars_fence sc_on_x86 k₁ k₂ = tt
bars_fence sc_on_armv7 k₁ k₂ = tt
bars_fence x86_on_armv7 k₁ k₂ = tt
bars_fence armv8_on_armv7 k₁ k₂ = tt
bars_fence sc_on_armv8 k₁ k₂ = tt
bars_fence x86_on_armv8 k₁ k₂ = tt

-- a plain node is none
pub bars_plain : (q : Question) (k₁ k₂ : ℕ) → T (bars q k₁ k₂ PLAIN) → ⊥
bars_plain sc_on_x86 k₁ k₂ t = t
bars_plain sc_on_armv7 k₁ k₂ t = t
bars_plain x86_on_armv7 k₁ k₂ t = t
bars_plain armv8_on_armv7 k₁ k₂ t = t
bars_plain sc_on_armv8 k₁ k₂ t = t
bars_plain x86_on_armv8 k₁ k₂ t = t
