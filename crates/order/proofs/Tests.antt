-- Tests that pass exactly if what they test holds (`-checked`), put together from smaller ones.
use mathlib.Core.Path.{◌≡◌}
use mathlib.Core.Logic.{◌↔◌, ◌⊎◌, ⊎_map}
use mathlib.Core.List.{List, [], ◌∷◌}
use mathlib.Core.Bool.{Bool, true, false, not, ◌&&◌, ◌||◌}
use Prim.Native.Nat.{ℕ, ◌<◌}
use lib.Dec.{T, eqb, ltb, ltb→lt, lt→ltb, eqb→eq, T_not, not_T}
use Rattle.order.specs.Rows.{All}
use Rattle.listing.proofs.Bools.{both, both→, one, one→, eq→eqb}
use Rattle.order.proofs.Lists.{every}

pub eqb_checked : (m n : ℕ) → T (eqb m n) ↔ (m ≡ n)
eqb_checked m n = (eqb→eq m n, eq→eqb m n)

pub ltb_checked : (m n : ℕ) → T (ltb m n) ↔ (m < n)
ltb_checked m n = (ltb→lt m n, lt→ltb m n)

pub both_checked : {X Y : Type 0} (a b : Bool) → T a ↔ X → T b ↔ Y → T (a && b) ↔ (X × Y)
both_checked a b e f = (λ t. let h = both→ a b t in (e.0 h.0, f.0 h.1), λ h. both a b (e.1 h.0) (f.1 h.1))

pub one_checked : {X Y : Type 0} (a b : Bool) → T a ↔ X → T b ↔ Y → T (a || b) ↔ X ⊎ Y
one_checked a b e f = (λ t. ⊎_map e.0 f.0 (one→ a b t), λ h. one a b (⊎_map e.1 f.1 h))

pub not_checked : {X : Type 0} (a : Bool) → T a ↔ X → T (not a) ↔ (X → ⊥)
not_checked a e = (λ t x. T_not a t (e.1 x), λ n. not_T a (λ t. n (e.0 t)))

-- such a test decides; whether it is yes or no is the test alone
abbrev pub decided : {X : Type 0} (b : Bool) → T b ↔ X → Dec X
decided true e = yes (e.0 tt)
decided false e = no e.1

-- A TEST OF EVERY ENTRY
pub every_checked : {A : Type 0} (t : A → Bool) (P : A → Type 0) → ((x : A) → T (t x) ↔ P x) → (xs : List A) → T (every t xs) ↔ All P xs
every_checked t P f [] = (λ h. h, λ h. h)
every_checked t P f (x ∷ xs) = both_checked (t x) (every t xs) (f x) (every_checked t P f xs)
