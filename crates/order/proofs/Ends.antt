-- Barriers one fence at a time: what bars a pair is what bars with the fence that looks at it.
use mathlib.Core.Path.{◌≡◌, refl, sym, ap, ap₂, subst, subst⁻¹, ◌∙◌}
use mathlib.Core.Logic.{◌⊎◌, inl, inr}
use mathlib.Core.Bool.{Bool, true, false, not, cond, ◌&&◌, ◌||◌, and-true, and-false, or-false, true≢false}
use Prim.Native.Nat.{ℕ}
use lib.Dec.{T, eqb, eqb→eq, not_T}
use Rattle.listing.specs.Kinds.{READ, FENCE, LOAD_FENCE, STORE_FENCE}
use Rattle.listing.proofs.Bools.{bool?, T?, T_true, both→, one, either}
use Rattle.order.specs.Walks.{counts_write, is_fence}
use Rattle.order.specs.Need.{Question, sc_on_x86, sc_on_armv7, x86_on_armv7, armv8_on_armv7, sc_on_armv8, x86_on_armv8, question, bars_by_ends, bars}
use Rattle.order.specs.Inner.Ends.{by_ends, bars_with, fence_for}

-- ── With one fence ──────────────────────────────────────────────────────────
-- a full fence always bars
pub with_fence : (q : Question) (f : ℕ) → T (bars_with q f FENCE)
with_fence sc_on_x86 f = tt
with_fence sc_on_armv7 f = tt
with_fence x86_on_armv7 f = tt
with_fence armv8_on_armv7 f = tt
with_fence sc_on_armv8 f = tt
with_fence x86_on_armv8 f = tt

-- but for SC on x86 there is a full fence, and where barriers look at the ends the fence
pub with_else : (q f k : ℕ) → eqb q 1 ≡ false → bars_with (question q) f k ≡ (is_fence k || (by_ends (question q) && eqb k f))
with_else q f k h = rw h (others (eqb q 2) (eqb q 3) (eqb q 4) (eqb q 5))
  where
    Else : Question → Type 0
    Else p = bars_with p f k ≡ (is_fence k || (by_ends p && eqb k f))

    others : (x y z w : Bool) → Else (cond x sc_on_armv7 (cond y x86_on_armv7 (cond z armv8_on_armv7 (cond w sc_on_armv8 x86_on_armv8))))
    others true y z w = sym (or-false (is_fence k))
    others false true z w = sym (or-false (is_fence k))
    others false false true w = sym (or-false (is_fence k))
    others false false false true = refl
    others false false false false = refl

-- what bars with a full fence bars with every fence
pub with_more : (q : Question) (f k : ℕ) → T (bars_with q FENCE k) → T (bars_with q f k)
with_more sc_on_x86 f k t = t
with_more sc_on_armv7 f k t = t
with_more x86_on_armv7 f k t = t
with_more armv8_on_armv7 f k t = t
with_more sc_on_armv8 f k t = one (is_fence k) (eqb k f) (inl (either (is_fence k) (is_fence k) (λ s. s) (λ s. s) t))
with_more x86_on_armv8 f k t = one (is_fence k) (eqb k f) (inl (either (is_fence k) (is_fence k) (λ s. s) (λ s. s) t))

-- what is not the fence bars with a full fence, if it bars with this one
pub with_absent : (q : Question) (f k : ℕ) → (T (eqb k f) → ⊥) → T (bars_with q f k) → T (bars_with q FENCE k)
with_absent sc_on_x86 f k n t = t
with_absent sc_on_armv7 f k n t = t
with_absent x86_on_armv7 f k n t = t
with_absent armv8_on_armv7 f k n t = t
with_absent sc_on_armv8 f k n t = either (is_fence k) (eqb k f) (λ s. one (is_fence k) (is_fence k) (inl s)) (λ s. absurd (n s)) t
with_absent x86_on_armv8 f k n t = either (is_fence k) (eqb k f) (λ s. one (is_fence k) (is_fence k) (inl s)) (λ s. absurd (n s)) t

-- where barriers do not look at the ends, every fence is as good
pub with_old : (q : Question) (f k : ℕ) → by_ends q ≡ false → T (bars_with q f k) → T (bars_with q FENCE k)
with_old sc_on_x86 f k e t = t
with_old sc_on_armv7 f k e t = t
with_old x86_on_armv7 f k e t = t
with_old armv8_on_armv7 f k e t = t
with_old sc_on_armv8 f k e t = absurd (true≢false e)
with_old x86_on_armv8 f k e t = absurd (true≢false e)

-- ── The fence that looks at a pair ──────────────────────────────────────────
-- what a full fence has, and a load fence or a store fence if it looks at the pair, the pair's fence has
pub fence_cases : (P : ℕ → Type 0) (k₁ k₂ : ℕ) → P FENCE → (T (eqb k₁ READ) → P LOAD_FENCE) → (T (counts_write k₁ && counts_write k₂) → P STORE_FENCE)
    → P (fence_for k₁ k₂)
fence_cases P k₁ k₂ p l s = go (eqb k₁ READ) (counts_write k₁ && counts_write k₂) l s
  where
    go : (x y : Bool) → (T x → P LOAD_FENCE) → (T y → P STORE_FENCE) → P (cond x LOAD_FENCE (cond y STORE_FENCE FENCE))
    go true y l s = l tt
    go false true l s = s tt
    go false false l s = p

-- a load fence looks at pairs whose first is kind 1
pub load_looks : (k₁ k₂ : ℕ) → T (eqb k₁ READ) → fence_for k₁ k₂ ≡ LOAD_FENCE
load_looks k₁ k₂ t = ap (λ (b : Bool). cond b LOAD_FENCE (cond (counts_write k₁ && counts_write k₂) STORE_FENCE FENCE)) (T_true (eqb k₁ READ) t)

-- a store fence at pairs of writes, none of which is a read
pub store_looks : (k₁ k₂ : ℕ) → T (counts_write k₁ && counts_write k₂) → fence_for k₁ k₂ ≡ STORE_FENCE
store_looks k₁ k₂ t =
    ap₂ (λ (b d : Bool). cond b LOAD_FENCE (cond d STORE_FENCE FENCE)) (no_read (bool? (eqb k₁ READ))) (T_true (counts_write k₁ && counts_write k₂) t)
  where
    no_read : (eqb k₁ READ ≡ true) ⊎ (eqb k₁ READ ≡ false) → eqb k₁ READ ≡ false
    no_read (inl e) =
        absurd (subst (λ (k : ℕ). T (counts_write k && counts_write k₂)) (eqb→eq k₁ READ (subst T (sym e) tt)) t)
    no_read (inr e) = e

-- the two parts of what bars by the ends, where no pair is looked at by both
parts : (f l s x y : Bool) → T (not (x && y)) → (f || ((l && x) || (s && y))) ≡ (f || cond x l (cond y s f))
parts true l s x y n = refl
parts false l s true true n = absurd n
parts false l s true false n = ap₂ ◌||◌ (and-true l) (and-false s) ∙ or-false l
parts false l s false true n = ap₂ ◌||◌ (and-false l) (and-true s)
parts false l s false false n = ap₂ ◌||◌ (and-false l) (and-false s)

ends : (k₁ k₂ k : ℕ) → (is_fence k || bars_by_ends k₁ k₂ k) ≡ (is_fence k || eqb k (fence_for k₁ k₂))
ends k₁ k₂ k =
    parts (is_fence k) (eqb k LOAD_FENCE) (eqb k STORE_FENCE) (eqb k₁ READ) (counts_write k₁ && counts_write k₂) (apart (T? (eqb k₁ READ)))
    ∙ ap (λ (b : Bool). is_fence k || b) (chosen (eqb k₁ READ) (counts_write k₁ && counts_write k₂))
  where
    apart : Dec (T (eqb k₁ READ)) → T (not (eqb k₁ READ && (counts_write k₁ && counts_write k₂)))
    apart (yes t) = subst⁻¹ (λ (j : ℕ). T (not (eqb j READ && (counts_write j && counts_write k₂)))) (eqb→eq k₁ READ t) tt
    apart (no n) = not_T (eqb k₁ READ && (counts_write k₁ && counts_write k₂)) (λ t. n (both→ (eqb k₁ READ) _ t).0)

    chosen : (x y : Bool) → cond x (eqb k LOAD_FENCE) (cond y (eqb k STORE_FENCE) (is_fence k)) ≡ eqb k (cond x LOAD_FENCE (cond y STORE_FENCE FENCE))
    chosen true y = refl
    chosen false true = refl
    chosen false false = refl

-- WHAT BARS A PAIR IS WHAT BARS WITH THE FENCE THAT LOOKS AT IT
pub bars_one : (q : Question) (k₁ k₂ k : ℕ) → bars q k₁ k₂ k ≡ bars_with q (fence_for k₁ k₂) k
bars_one sc_on_x86 k₁ k₂ k = refl
bars_one sc_on_armv7 k₁ k₂ k = refl
bars_one x86_on_armv7 k₁ k₂ k = refl
bars_one armv8_on_armv7 k₁ k₂ k = refl
bars_one sc_on_armv8 k₁ k₂ k = ends k₁ k₂ k
bars_one x86_on_armv8 k₁ k₂ k = ends k₁ k₂ k
