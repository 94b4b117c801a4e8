-- A row of bytes that says something that a text has is a word: it has a byte, and no blank in it.
use mathlib.Core.Path.{◌≡◌, refl, ap, ◌∙◌}
use mathlib.Core.Bool.{Bool, true, false, cond, not, ◌&&◌}
use mathlib.Core.List.{List, [], ◌∷◌}
use Prim.Native.Nat.{ℕ, zero, suc, ◌≤◌}
use Prim.Native.String.{String}
use native.Mathlib.Omega.{arith}
use lib.ListN.{length}
use lib.Seq.{take-length, drop-length}
use lib.Dec.{leb}
use borrow.Author.Tests.{ne_eqb, leb-true, not-true}
use Rattle.listing.specs.Ascii.{bytes}
use Rattle.listing.specs.Kinds.{READ, WRITE, RMW}
use Rattle.listing.proofs.Bools.{and_both}
use Rattle.words.specs.Words.{Token, Routine, Loop, Either, Open, Close, Fence, Access, Number, Other, DIGITS, word_at, words, begins}
use Rattle.words.specs.Words.{is_blank, is_digit, all_digits, value_from, number, same, meaning}
use Rattle.words.specs.Runs.{Each}
use Rattle.words.proofs.Same.{same_is}
use Rattle.words.proofs.Digits.{from_zero_on}
use Rattle.words.proofs.Finding.{one_word}

-- no blank in it
abbrev pub Solid : List ℕ → Type 0
Solid w = Each w 0 (length w) false

-- ── The test ────────────────────────────────────────────────────────────────
abbrev solid : List ℕ → Bool
solid [] = true
solid (b ∷ w) = not (is_blank b) && solid w

abbrev whole : List ℕ → Bool
whole w = leb 1 (length w) && solid w

no_blank : (w : List ℕ) → solid w ≡ true → Solid w
no_blank [] e k low high = absurd (omega arith)
no_blank (b ∷ w) e zero low high = not-true (is_blank b) (and_both (not (is_blank b)) (solid w) e).0
no_blank (b ∷ w) e (suc k) low high = no_blank w (and_both (not (is_blank b)) (solid w) e).1 k (omega arith) (omega arith)

-- ── What says something ─────────────────────────────────────────────────────
digit_no_blank : (b : ℕ) → is_digit b ≡ true → not (is_blank b) ≡ true
unfolding is_blank
digit_no_blank b e =
    let low = from_zero_on b e in
    rw (ne_eqb b 0x20 (λ z. omega arith), ne_eqb b 0x0D (λ z. omega arith), ne_eqb b 0x0A (λ z. omega arith))

digits_solid : (w : List ℕ) → all_digits w ≡ true → solid w ≡ true
digits_solid [] e = refl
digits_solid (b ∷ w) e =
    let both = and_both (is_digit b) (all_digits w) e in
    rw (digit_no_blank b both.0, digits_solid w both.1)

number_whole : (w : List ℕ) → number w ≡ true → whole w ≡ true
unfolding number
number_whole w e =
    let both = and_both (leb 1 (length w) && leb (length w) DIGITS) _ e in
    let some = (and_both (leb 1 (length w)) (leb (length w) DIGITS) both.0).0 in
    let all = digits_solid w (and_both (all_digits w) _ both.1).0 in
    rw (some, all)

module _ (w : List ℕ) where
  -- if y is something, then w is whole
  abbrev Shows : Token → Type 0
  Shows y = (y ≡ Other → ⊥) → whole w ≡ true

  asked : (b : Bool) (t y : Token) → (b ≡ true → whole w ≡ true) → Shows y → Shows (cond b t y)
  asked true t y this rest h = this refl
  asked false t y this rest h = rest h

  spelled : (x : String) (t : Token) {y : Token} → whole (bytes x) ≡ true → Shows y → Shows (cond (same w (bytes x)) t y)
  spelled x t {y} h = asked (same w (bytes x)) t y (λ e. ap whole (same_is w (bytes x) e) ∙ h)

  says_whole : Shows (meaning w)
  unfolding meaning is_blank
  says_whole =
      spelled "routine" Routine refl
      (spelled "loop" Loop refl
      (spelled "either" Either refl
      (spelled "{" Open refl
      (spelled "}" Close refl
      (spelled "f" Fence refl
      (spelled "r" (Access READ) refl
      (spelled "w" (Access WRITE) refl
      (spelled "u" (Access RMW) refl
      (asked (number w) (Number (value_from 0 w)) Other (number_whole w)
      (λ h. absurd (h refl)))))))))))

  -- WHAT SAYS SOMETHING HAS A BYTE AND NO BLANK
  pub says_solid : (meaning w ≡ Other → ⊥) → Solid w × (1 ≤ length w)
  says_solid h =
      let both = and_both (leb 1 (length w)) (solid w) (says_whole h) in
      (no_blank w both.1, leb-true 1 (length w) both.0)

  -- AND IS A TEXT OF ONE WORD
  pub says_word : (meaning w ≡ Other → ⊥) → words w ≡ word_at 0 w ∷ []
  unfolding words
  says_word h =
      let is = says_solid h in
      one_word (length w) 0 w is.1 (omega arith) (λ k high. is.0 k (omega arith) high) (ap begins (drop-length w))
      ∙ rw (take-length, drop-length)
