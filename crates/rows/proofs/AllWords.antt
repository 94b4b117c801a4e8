-- All words at once: 0, or combined with those of another list.
use mathlib.Core.Path.{◌≡◌, sym, ap, ◌∙◌}
use mathlib.Core.List.{List}
use Prim.Native.Nat.{ℕ, ◌+◌, ◌*◌, ◌/◌, ◌%◌, ◌≤◌, ◌<◌, min}
use native.Mathlib.Omega.{arith}
use native.Mathlib.Decide.{dec_lt}
use lib.Bits.{bit_and, and_zero_l}
use lib.ListN.{length, get_or, replicate, length-replicate, get_or-eq_default}
use Rattle.std.proofs.lemmas.List.{get_or-replicate}
use Rattle.rows.specs.Inner.Rows.{bit, at, Blank}
use Rattle.rows.specs.Inner.Touched.{Common}
use Rattle.rows.proofs.Bit.{bit_and_lem, bit_zero}
use Rattle.rows.proofs.Places.{at_le}

-- words that are all 0
pub blank : {w : List ℕ} (n : ℕ) → w ≡ replicate n 0 → Blank w
unfolding at
blank {w} n e x y hy h = no_bit (word (dec_lt j n))
  where
    zeros : List ℕ
    zeros = replicate n 0

    j : ℕ
    j = 2 * x + y / 64

    word : Dec (j < n) → get_or zeros j 0 ≡ 0
    word (yes l) = get_or-replicate n j 0 0 l
    word (no l) = get_or-eq_default zeros 0 (let s : length (replicate {A = ℕ} n 0) ≡ n = length-replicate n 0 in omega arith)

    no_bit : get_or zeros j 0 ≡ 0 → ⊥
    no_bit z =
        let f : at w x y ≡ 0 = rw e (ap (λ (u : ℕ). bit u (y % 64)) z ∙ bit_zero (y % 64)) in
        omega arith

-- what both have, where every word is combined with its like of u
pub common : (u w v : List ℕ) → ((j : ℕ) → j < length w → get_or v j 0 ≡ bit_and (get_or w j 0) (get_or u j 0))
    → ((j : ℕ) → length w ≤ j → get_or v j 0 ≡ get_or w j 0) → Common u w v
unfolding at
common u w v done ahead =
    record {
      gives = λ a b hb h. (omega (arith, both a b, at_le w a b, at_le u a b), omega (arith, both a b, at_le w a b, at_le u a b));
      keeps = λ a b hb p q. omega (arith, both a b);
    }
  where
    word : (j : ℕ) → Dec (j < length w) → get_or v j 0 ≡ bit_and (get_or w j 0) (get_or u j 0)
    word j (yes h) = done j h
    word j (no h) =
        let z : get_or w j 0 ≡ 0 = get_or-eq_default w 0 (omega arith) in
        ahead j (omega arith) ∙ rw z (sym (and_zero_l (get_or u j 0)))

    both : (a b : ℕ) → at v a b ≡ min (at w a b) (at u a b)
    both a b =
        let j = 2 * a + b / 64 in
        ap (λ (z : ℕ). bit z (b % 64)) (word j (dec_lt j (length w))) ∙ bit_and_lem (get_or w j 0) (get_or u j 0) (b % 64)
