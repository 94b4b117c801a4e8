-- One bit asked for by a mask, put into a row or taken out of it.
use mathlib.Core.Path.{◌≡◌, refl, sym, ap, ◌∙◌}
use mathlib.Core.Bool.{Bool, true, false, not}
use mathlib.Core.Logic.{◌⊎◌, inl, inr}
use mathlib.Core.List.{List}
use Prim.Native.Nat.{ℕ, ◌+◌, ◌*◌, ◌/◌, ◌%◌, ◌^◌, ◌<◌}
use native.Mathlib.Omega.{arith}
use native.Mathlib.Decide.{ℕ_discrete}
use borrow.Author.Tests.{eqb-true, eqb-false}
use lib.Dec.{eqb}
use lib.Pow.{pow_pos}
use native.Mathlib.Nat.{zero-mul}
use lib.Bits.{bit_and}
use lib.ListN.{length, get_or, set}
use lib.Seq.{get_or-set_same, get_or-set_other}
use Rattle.rows.specs.Inner.Rows.{Tells, bit, at, Has}
use Rattle.rows.specs.Inner.Touched.{Added, Removed}
use Rattle.rows.proofs.Bit.{hot, put_bit, drop_bit, put_same, put_other, drop_same, drop_other, bit_le, masked_bit}

-- two places are the same or not
both : (x y a b : ℕ) → Dec ((x ≡ a) × (y ≡ b))
both x y a b = by (ℕ_discrete x a) (ℕ_discrete y b)
  where
    by : Dec (x ≡ a) → Dec (y ≡ b) → Dec ((x ≡ a) × (y ≡ b))
    by (yes e) (yes f) = yes (e, f)
    by (yes e) (no f) = no (λ p. f p.1)
    by (no e) f = no (λ p. e p.0)

-- the word of row a that has b's bit is changed by op, which leaves every other bit
module _
    (op : ℕ → ℕ → ℕ) (other : (x k : ℕ) → k < 64 → (i : ℕ) → i < 64 → (i ≡ k → ⊥) → bit (op x k) i ≡ bit x i)
    (w : List ℕ) (a b : ℕ) (long : 2 * a + 1 < length w) (hb : b < 128) where
  abbrev place : ℕ
  place = 2 * a + b / 64

  abbrev word : ℕ
  word = op (get_or w place 0) (b % 64)

  abbrev pub touched : List ℕ
  touched = set w place word

  pub bit_here : at touched a b ≡ bit word (b % 64)
  unfolding at
  bit_here = ap (λ (z : ℕ). bit z (b % 64)) (get_or-set_same w place word 0 (omega arith))

  pub bit_there : (x y : ℕ) → y < 128 → ((x ≡ a) × (y ≡ b) → ⊥) → at touched x y ≡ at w x y
  unfolding at
  bit_there x y hy ne = by (ℕ_discrete (2 * x + y / 64) place)
    where
      by : Dec (2 * x + y / 64 ≡ place) → bit (get_or touched (2 * x + y / 64) 0) (y % 64) ≡ bit (get_or w (2 * x + y / 64) 0) (y % 64)
      by (yes e) =
          ap (λ (z : ℕ). bit (get_or touched z 0) (y % 64)) e
          ∙ ap (λ (z : ℕ). bit z (y % 64)) (get_or-set_same w place word 0 (omega arith))
          ∙ other (get_or w place 0) (b % 64) (omega arith) (y % 64) (omega arith) (λ f. ne (omega arith, omega arith))
          ∙ ap (λ (z : ℕ). bit (get_or w z 0) (y % 64)) (sym e)
      by (no e) = ap (λ (z : ℕ). bit z (y % 64)) (get_or-set_other w place (2 * x + y / 64) word 0 e)

-- the word of row a that has b's bit, under a mask of that bit, is not 0
abbrev pub masked : List ℕ → ℕ → ℕ → Bool
masked w a b = not (eqb (bit_and (get_or w (2 * a + b / 64) 0) (hot (b % 64))) 0)

-- THE MASK TEST IS THE ROW'S RELATION
pub tells_has : (w : List ℕ) (a b : ℕ) → Tells (masked w a b) (Has w a b)
unfolding at
tells_has w a b = by (eqb (bit_and x (hot k)) 0) refl
  where
    x : ℕ
    x = get_or w (2 * a + b / 64) 0

    k : ℕ
    k = b % 64

    -- what the mask leaves, at either value of the bit
    left : (n : ℕ) → bit x k ≡ n → bit_and x (hot k) ≡ n * 2 ^ k
    left n e = masked_bit x k (omega arith) ∙ ap (λ (z : ℕ). z * 2 ^ k) e

    by : (r : Bool) → eqb (bit_and x (hot k)) 0 ≡ r → Tells (not r) (bit x k ≡ 1)
    by true e = λ s. omega (arith, left 1 s, eqb-true _ _ e, pow_pos k)
    by false e = set (ℕ_discrete (bit x k) 0)
      where
        set : Dec (bit x k ≡ 0) → bit x k ≡ 1
        set (yes z) = absurd (eqb-false _ _ e (left 0 z ∙ zero-mul (2 ^ k)))
        set (no n) = omega (arith, bit_le x k)

module _ (w : List ℕ) (a b : ℕ) (long : 2 * a + 1 < length w) (hb : b < 128) where
  -- the word with the bit put in
  pub added : Added w (touched put_bit put_other w a b long hb) a b
  added = record { gives = gives; keeps = keeps; new = new }
    where
      v : List ℕ
      v = touched put_bit put_other w a b long hb

      there : (x y : ℕ) → y < 128 → ((x ≡ a) × (y ≡ b) → ⊥) → at v x y ≡ at w x y
      there = bit_there put_bit put_other w a b long hb

      new : Has v a b
      new = bit_here put_bit put_other w a b long hb ∙ put_same _ (b % 64) (omega arith)

      gives : (x y : ℕ) → y < 128 → Has v x y → Has w x y ⊎ ((x ≡ a) × (y ≡ b))
      gives x y hy h = by (both x y a b)
        where
          by : Dec ((x ≡ a) × (y ≡ b)) → Has w x y ⊎ ((x ≡ a) × (y ≡ b))
          by (yes e) = inr e
          by (no e) = inl (sym (there x y hy e) ∙ h)

      keeps : (x y : ℕ) → y < 128 → Has w x y → Has v x y
      keeps x y hy h = by (both x y a b)
        where
          by : Dec ((x ≡ a) × (y ≡ b)) → Has v x y
          by (yes e) = rw (e.0, e.1) new
          by (no e) = there x y hy e ∙ h

  -- the word with the bit taken out
  pub removed : Removed w (touched drop_bit drop_other w a b long hb) a b
  removed = record { gives = gives; keeps = λ x y hy ne h. there x y hy ne ∙ h; gone = gone }
    where
      v : List ℕ
      v = touched drop_bit drop_other w a b long hb

      there : (x y : ℕ) → y < 128 → ((x ≡ a) × (y ≡ b) → ⊥) → at v x y ≡ at w x y
      there = bit_there drop_bit drop_other w a b long hb

      gone : Has v a b → ⊥
      gone h = omega (arith, h, bit_here drop_bit drop_other w a b long hb ∙ drop_same _ (b % 64) (omega arith))

      gives : (x y : ℕ) → y < 128 → Has v x y → Has w x y
      gives x y hy h = by (both x y a b)
        where
          by : Dec ((x ≡ a) × (y ≡ b)) → Has w x y
          by (yes e) = absurd (gone (rw (e.0, e.1) at h))
          by (no e) = sym (there x y hy e) ∙ h
