-- A location, digit by digit: what is said is what the bytes still unread say after the digits read.
use mathlib.Core.Path.{◌≡◌, sym, ◌∙◌}
use mathlib.Core.Logic.{inr}
use mathlib.Core.Bool.{true, false, ◌&&◌}
use mathlib.Core.List.{List, [], ◌∷◌}
use Prim.Native.Nat.{ℕ, ◌+◌, ◌*◌, ◌-◌, ◌<◌, ◌≤◌}
use native.Mathlib.Omega.{arith}
use lib.ListN.{length, drop, get_or, drop_of_length-le}
use lib.Dec.{leb}
use borrow.Author.Tests.{le-leb, lt-leb, leb-true}
use Rattle.std.specs.Prelude.{None, Some}
use Rattle.listing.proofs.Bools.{lacks_and, and_both}
use Rattle.listing.proofs.Stores.{next}
use Rattle.words.specs.Words.{DIGITS, FARTHEST, is_digit, all_digits, value_from, number}
use Rattle.words.specs.Inner.Telling.{location_from, location_of}

-- ── One byte ────────────────────────────────────────────────────────────────
pub from_zero_on : (b : ℕ) → is_digit b ≡ true → 0x30 ≤ b
from_zero_on b e = leb-true 0x30 b (and_both (leb 0x30 b) (leb b 0x39) e).0

-- n is what the first i digits of w say
abbrev pub ReadTo : List ℕ → ℕ → ℕ → Type 0
ReadTo w n i = location_of w ≡ location_from n (drop i w)

least : (n : ℕ) (w : List ℕ) → n ≤ value_from n w
least n [] = omega arith
least n (b ∷ w) = omega (arith, least (10 * n + (b - 0x30)) w)

too_far : (n : ℕ) (w : List ℕ) → FARTHEST < n → location_from n w ≡ None
unfolding location_from
too_far n w h =
    let far = lt-leb (value_from n w) FARTHEST (omega (arith, least n w)) in
    rw (lacks_and (all_digits w) (leb (value_from n w) FARTHEST) (inr far))

module _ (w : List ℕ) (n i : ℕ) (so : ReadTo w n i) (h : i < length w) where
  pub no_digit : is_digit (get_or w i 0) ≡ false → None ≡ location_of w
  unfolding location_from
  no_digit e = sym (so ∙ rw (next w i 0 h, e))

  pub digit_read : (d : ℕ) → is_digit (get_or w i 0) ≡ true → d ≡ get_or w i 0 - 0x30 → ReadTo w (10 * n + d) (i + 1)
  unfolding location_from
  digit_read d e v = so ∙ rw (v, next w i 0 h, e)

  pub digit_far : (d : ℕ) → is_digit (get_or w i 0) ≡ true → d ≡ get_or w i 0 - 0x30 → FARTHEST < 10 * n + d → None ≡ location_of w
  digit_far d e v far = sym (digit_read d e v ∙ too_far _ _ far)

pub all_read : (w : List ℕ) (n i : ℕ) → ReadTo w n i → length w ≤ i → n ≤ FARTHEST → Some n ≡ location_of w
unfolding location_from
all_read w n i so h small = sym (so ∙ rw (drop_of_length-le w {i = i} h, le-leb n FARTHEST small))

-- ── A whole word ────────────────────────────────────────────────────────────
pub too_short : (w : List ℕ) → length w ≡ 0 → None ≡ location_of w
unfolding location_of number
too_short w h = rw h

pub too_long : (w : List ℕ) → DIGITS < length w → None ≡ location_of w
unfolding location_of number
too_long w h = rw (le-leb 1 (length w) (omega arith), lt-leb (length w) DIGITS h)

pub small_number : (w : List ℕ) → number w ≡ true → value_from 0 w ≤ FARTHEST
unfolding number
small_number w e =
    let said = (and_both (leb 1 (length w) && leb (length w) DIGITS) _ e).1 in
    leb-true (value_from 0 w) FARTHEST (and_both (all_digits w) _ said).1

-- A WORD OF ONE TO FIVE BYTES SAYS WHAT ITS DIGITS SAY
pub right_length : (w : List ℕ) → (length w ≡ 0 → ⊥) → length w ≤ DIGITS → ReadTo w 0 0
unfolding location_from location_of number
right_length w some few = rw (le-leb 1 (length w) (omega arith), le-leb (length w) DIGITS few)

-- what `words::tell::location` stands on
pub ruleset digits = (too_short, too_long, right_length, no_digit, digit_read, digit_far, all_read)
