-- The marks of a map, one by one.
use mathlib.Core.Path.{◌≡◌, refl, sym, ap, ◌∙◌}
use mathlib.Core.Bool.{Bool, true, false}
use mathlib.Core.List.{List, ◌∷◌}
use Prim.Native.Nat.{ℕ, ◌+◌, ◌≤◌, ◌<◌}
use native.Mathlib.Omega.{arith}
use native.Mathlib.Numerals.{add-one}
use mir.Val.{bool_byte}
use lib.ListN.{length, get_or, drop, length-map, drop_of_length-le, get_or-map}
use Rattle.listing.specs.Bytes.{nodes_of}
use Rattle.listing.proofs.Nodes.{nodes_length}
use Rattle.listing.proofs.Stores.{next}
use Rattle.order.specs.Patched.{Marks, marked, places}
use Rattle.fencing.specs.Marks.{is_mark, marks_of}
use Rattle.fencing.specs.Inner.MapFits.{MapFits}
use Rattle.fencing.specs.Inner.Putting.{next_after}

pub marks_length : (bytes : List ℕ) → length (marks_of bytes) ≡ length bytes
unfolding marks_of
marks_length bytes = length-map bytes is_mark

pub marks_at : (bytes : List ℕ) (i : ℕ) → marked (marks_of bytes) i ≡ is_mark (get_or bytes i 0)
unfolding marks_of
marks_at bytes i = get_or-map is_mark bytes i 0

places_step : (b : Bool) (ms : Marks) (k : ℕ) → next_after b k + places ms ≡ k + places (b ∷ ms)
places_step true ms k = omega arith
places_step false ms k = refl

-- the places are counted mark by mark
pub places_next : (ms : Marks) (i k : ℕ) → i < length ms → next_after (marked ms i) k + places (drop (i + 1) ms) ≡ k + places (drop i ms)
places_next ms i k h = places_step (marked ms i) (drop (i + 1) ms) k ∙ ap (λ (l : Marks). k + places l) (sym (next ms i false h))

-- nothing is left past the end
pub places_end : (bytes : List ℕ) (i : ℕ) → length bytes ≤ i → places (drop i (marks_of bytes)) ≡ 0
places_end bytes i h = ap places (drop_of_length-le (marks_of bytes) {i = i} (omega (arith, marks_length bytes)))

-- a map that fits has a mark for no more than the nodes
pub mapped : (s bytes : List ℕ) → MapFits s bytes → length (marks_of bytes) ≤ length (nodes_of s)
mapped s bytes fits = omega (arith, marks_length bytes, nodes_length s, fits.each)

-- THE PLACES LEFT, PAST A MARK AND PAST NONE
module _ (bytes : List ℕ) (i k : ℕ) {b : Bool} (h : i < length bytes) (is : b ≡ marked (marks_of bytes) i) where
  counted : next_after b k + places (drop (i + 1) (marks_of bytes)) ≡ k + places (drop i (marks_of bytes))
  counted =
      ap (λ (m : Bool). next_after m k + places (drop (i + 1) (marks_of bytes))) is
      ∙ places_next (marks_of bytes) i k (omega (arith, marks_length bytes))

  pub one_more : b ≡ true → k + 1 + places (drop (i + 1) (marks_of bytes)) ≡ k + places (drop i (marks_of bytes))
  one_more e = rw (add-one k) (ap (λ (m : Bool). next_after m k + places (drop (i + 1) (marks_of bytes))) (sym e) ∙ counted)

  pub no_more : b ≡ false → k + places (drop (i + 1) (marks_of bytes)) ≡ k + places (drop i (marks_of bytes))
  no_more e = ap (λ (m : Bool). next_after m k + places (drop (i + 1) (marks_of bytes))) (sym e) ∙ counted

-- the places counted, and those left, past a byte that counts as one where it is a mark
pub count_next : (bytes : List ℕ) (i k n : ℕ) → i < length bytes → n ≡ bool_byte (is_mark (get_or bytes i 0))
    → (n ≤ 1) × (k + n + places (drop (i + 1) (marks_of bytes)) ≡ k + places (drop i (marks_of bytes)))
count_next bytes i k n h e = go (is_mark (get_or bytes i 0)) e (sym (marks_at bytes i))
  where
    go : (b : Bool) → n ≡ bool_byte b → b ≡ marked (marks_of bytes) i
        → (n ≤ 1) × (k + n + places (drop (i + 1) (marks_of bytes)) ≡ k + places (drop i (marks_of bytes)))
    go true e is = let left = one_more bytes i k h is refl in (omega (arith, e), omega (arith, e, left))
    go false e is = let left = no_more bytes i k h is refl in (omega (arith, e), omega (arith, e, left))
