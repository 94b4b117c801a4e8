-- The bits of a word: of `or` and `and`, of one hot bit put in or taken out, and of a word that is not 0.
use mathlib.Core.Path.{◌≡◌, sym, ap, ◌∙◌}
use Prim.Native.Nat.{ℕ, ◌+◌, ◌-◌, ◌*◌, ◌/◌, ◌%◌, ◌^◌, ◌≤◌, ◌<◌, min, max}
use native.Mathlib.Omega.{arith}
use native.Mathlib.Decide.{dec_lt}
use native.Mathlib.Nat.{lt_of_le_of_lt}
use lib.Pow.{shr-shr, shr_le}
use lib.Count.{count_trailing_zeros}
use lib.Bits.{bit_or, bit_and}
use Rattle.std.specs.Int.{w64}
use Rattle.std.proofs.lemmas.Nat.{one_shl}
use Rattle.std.proofs.lemmas.Nat.Bits.{bit_at-zero, bit_at_above, bit_at_and, bit_at_or, and_pow, bit_at-trailing_zeros}
use Rattle.std.proofs.lemmas.Nat.Bits.{bit_at_set_same, bit_at_set_other, bit_at_clear_same, bit_at_clear_other}
use Rattle.rows.specs.Inner.Rows.{bit, IsSet}
use Rattle.rows.specs.Inner.Least.{Least}

pub bit_or_lem : (x y i : ℕ) → bit (bit_or x y) i ≡ max (bit x i) (bit y i)
unfolding bit
bit_or_lem = bit_at_or

pub bit_and_lem : (x y i : ℕ) → bit (bit_and x y) i ≡ min (bit x i) (bit y i)
unfolding bit
bit_and_lem = bit_at_and

pub bit_le : (x i : ℕ) → bit x i ≤ 1
unfolding bit
bit_le x i = omega arith

pub bit_zero : (i : ℕ) → bit 0 i ≡ 0
unfolding bit
bit_zero = bit_at-zero

-- ---- one bit

-- what `1 << k` gives
abbrev pub hot : ℕ → ℕ
hot k = 1 * 2 ^ k % 18446744073709551616

-- the word x with bit k put in, and taken out
abbrev pub put_bit : ℕ → ℕ → ℕ
put_bit x k = bit_or x (hot k)

abbrev pub drop_bit : ℕ → ℕ → ℕ
drop_bit x k = bit_and x (18446744073709551615 - hot k)

module _ (x k : ℕ) (hk : k < 64) where
  pub put_same : bit (put_bit x k) k ≡ 1
  unfolding bit
  put_same = bit_at_set_same w64 x k hk

  pub put_other : (i : ℕ) → i < 64 → (i ≡ k → ⊥) → bit (put_bit x k) i ≡ bit x i
  unfolding bit
  put_other i h = bit_at_set_other w64 x k hk i

  pub drop_same : bit (drop_bit x k) k ≡ 0
  unfolding bit
  drop_same = bit_at_clear_same w64 x k hk

  pub drop_other : (i : ℕ) → i < 64 → (i ≡ k → ⊥) → bit (drop_bit x k) i ≡ bit x i
  unfolding bit
  drop_other = bit_at_clear_other w64 x k hk

-- the word under a mask of bit k is 0 exactly if the bit is
pub masked_bit : (x k : ℕ) → k < 64 → bit_and x (hot k) ≡ bit x k * 2 ^ k
unfolding bit
masked_bit x k h = ap (bit_and x) (one_shl k 64 h) ∙ and_pow x k

-- ---- a word that is not 0

some_bit : (z : ℕ) → z < 2 ^ 64 → (z ≡ 0 → ⊥) → (i : ℕ) × (i < 64) × (bit z i ≡ 1)
unfolding bit
some_bit z h ne = let f = bit_at-trailing_zeros w64 z (omega arith) h in (count_trailing_zeros 64 z, f.0, f.1)

-- two words with a bit in common, and with none
pub common_bit : (x y : ℕ) → bit_and x y < 2 ^ 64 → (bit_and x y ≡ 0 → ⊥) → (i : ℕ) × (i < 64) × (bit x i ≡ 1) × (bit y i ≡ 1)
common_bit x y h ne =
    let p = some_bit (bit_and x y) h ne in
    let b = p.2 in
    let c = bit_and_lem x y p.0 in
    let lx = bit_le x p.0 in
    let ly = bit_le y p.0 in
    (p.0, p.1, omega arith, omega arith)

pub no_common : (x y i : ℕ) → bit_and x y ≡ 0 → bit x i ≡ 1 → bit y i ≡ 1 → ⊥
no_common x y i e a b =
    let c = bit_and_lem x y i in
    let z : bit (bit_and x y) i ≡ 0 = ap (λ (u : ℕ). bit u i) e ∙ bit_zero i in
    omega arith

-- ---- the lowest bit from b on

module _ (x b : ℕ) (hx : x < 2 ^ 64) (hb : b < 64) where
  from_shifted : (z : ℕ) → b ≤ z → bit x z ≡ bit (x / 2 ^ b) (z - b)
  unfolding bit
  from_shifted z h =
      let e : b + (z - b) ≡ z = omega arith in
      ap (bit x) (sym e) ∙ ap (λ (u : ℕ). u % 2) (sym (shr-shr x b (z - b)))

  pub lowest_none : x / 2 ^ b ≡ 0 → Least (IsSet x) b 64 64
  lowest_none e =
      record {
        low = omega arith;
        from = omega arith;
        here = λ h. absurd (omega arith);
        none = λ z l h o. (
            let f = sym (from_shifted z l) ∙ o in
            let g : bit (x / 2 ^ b) (z - b) ≡ 0 = ap (λ (u : ℕ). bit u (z - b)) e ∙ bit_zero (z - b) in
            omega arith);
      }

  -- THE LOWEST BIT STANDS ABOVE THE TRAILING ZEROS
  pub lowest_some : (x / 2 ^ b ≡ 0 → ⊥) → Least (IsSet x) b 64 (b + count_trailing_zeros 64 (x / 2 ^ b))
  unfolding bit
  lowest_some ne =
      let f = bit_at-trailing_zeros w64 (x / 2 ^ b) (omega arith) (lt_of_le_of_lt (shr_le x b) hx) in
      let e : b + t - b ≡ t = omega arith in
      record {
        low = low (dec_lt r 64) (rw e at (from_shifted r (omega arith)) ∙ f.1);
        from = omega arith;
        here = λ h. rw e at (from_shifted r (omega arith)) ∙ f.1;
        none = λ z l h o. omega (arith, f.2 (z - b) (omega arith), sym (from_shifted z l) ∙ o);
      }
    where
      t : ℕ
      t = count_trailing_zeros 64 (x / 2 ^ b)

      r : ℕ
      r = b + t

      low : Dec (r < 64) → bit x r ≡ 1 → r ≤ 64
      low (yes h) s = omega arith
      low (no h) s = absurd (omega (arith, bit_at_above x 64 r hx (omega arith), s))
