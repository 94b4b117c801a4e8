-- Where the bits of a row stand: in which word, and after the row's two words are stored.
use mathlib.Core.Path.{◌≡◌, sym, ap, subst, ◌∙◌}
use mathlib.Core.List.{List}
use Prim.Native.Nat.{ℕ, ◌+◌, ◌-◌, ◌*◌, ◌/◌, ◌%◌, ◌≤◌, ◌<◌}
use native.Mathlib.Omega.{arith}
use native.Mathlib.Decide.{ℕ_discrete}
use lib.ListN.{length, set, length-set}
use lib.Seq.{get_or-set_same, get_or-set_other}
use Rattle.rows.specs.Inner.Rows.{bit, low_word, high_word, with_words, at}

-- a bit is 0 or 1
pub at_le : (w : List ℕ) (a b : ℕ) → at w a b ≤ 1
unfolding at bit
at_le w a b = omega arith

-- what holds of row a, and of the others
pub row_or_rest : (P : ℕ → Type 0) (a : ℕ) → P a → ((x : ℕ) → (x ≡ a → ⊥) → P x) → (x : ℕ) → P x
row_or_rest P a here there x = by (ℕ_discrete x a)
  where
    by : Dec (x ≡ a) → P x
    by (yes e) = subst P (sym e) here
    by (no e) = there x e

-- a bit of the low word, and of the high one
pub at_low : (w : List ℕ) (a y : ℕ) → y < 64 → at w a y ≡ bit (low_word w a) y
unfolding at
at_low w a y h =
    let e : 2 * a + y / 64 ≡ 2 * a = omega arith in
    let f : y % 64 ≡ y = omega arith in
    cc

pub at_high : (w : List ℕ) (a y : ℕ) → 64 ≤ y → y < 128 → at w a y ≡ bit (high_word w a) (y - 64)
unfolding at
at_high w a y h l =
    let e : 2 * a + y / 64 ≡ 2 * a + 1 = omega arith in
    let f : y % 64 ≡ y - 64 = omega arith in
    cc

-- the two words of row a are stored
module _ (w : List ℕ) (a lo hi : ℕ) (long : 2 * a + 1 < length w) where
  pub stored_low : (y : ℕ) → y < 64 → at (with_words w a lo hi) a y ≡ bit lo y
  stored_low y h = at_low (with_words w a lo hi) a y h ∙ ap (λ (z : ℕ). bit z y) word
    where
      word : low_word (with_words w a lo hi) a ≡ lo
      word = get_or-set_other (set w (2 * a) lo) (2 * a + 1) (2 * a) hi 0 (omega arith) ∙ get_or-set_same w (2 * a) lo 0 (omega arith)

  pub stored_high : (y : ℕ) → 64 ≤ y → y < 128 → at (with_words w a lo hi) a y ≡ bit hi (y - 64)
  stored_high y h l = at_high (with_words w a lo hi) a y h l ∙ ap (λ (z : ℕ). bit z (y - 64)) word
    where
      word : high_word (with_words w a lo hi) a ≡ hi
      word = get_or-set_same (set w (2 * a) lo) (2 * a + 1) hi 0 (simp length-set (omega arith))

  pub stored_rest : (x y : ℕ) → y < 128 → (x ≡ a → ⊥) → at (with_words w a lo hi) x y ≡ at w x y
  unfolding at
  stored_rest x y hy ne =
      ap (λ (z : ℕ). bit z (y % 64))
      (get_or-set_other (set w (2 * a) lo) (2 * a + 1) (2 * x + y / 64) hi 0 (omega arith)
      ∙ get_or-set_other w (2 * a) (2 * x + y / 64) lo 0 (omega arith))
