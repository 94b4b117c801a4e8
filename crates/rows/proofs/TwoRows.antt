-- Two rows compared, word by word: whether they meet, whether one has all that the other has, whether they are the same.
use mathlib.Core.Path.{◌≡◌, refl, sym, ap, ◌∙◌}
use mathlib.Core.Bool.{Bool, true, false, not, ◌&&◌}
use mathlib.Core.List.{List}
use Prim.Native.Nat.{ℕ, ◌+◌, ◌-◌, ◌^◌, ◌≤◌, ◌<◌}
use native.Mathlib.Omega.{arith}
use native.Mathlib.Decide.{dec_lt}
use borrow.Author.Tests.{eqb-true, eqb-false}
use lib.Dec.{eqb}
use lib.Bits.{bit_and}
use Rattle.std.specs.Prelude.{Option, None, Some}
use Rattle.std.specs.Option.{MatchOption, unwrap_or}
use Rattle.rows.specs.Inner.Rows.{Tells, Vouches, bit, low_word, high_word, at, Has, Meet}
use Rattle.rows.specs.Inner.Touched.{Covers, Alike, Earlier}
use Rattle.rows.proofs.Bit.{bit_and_lem, bit_le, common_bit, no_common}
use Rattle.rows.proofs.Places.{at_low, at_high}

-- ---- a node in common

module _ (w s : List ℕ) (x z lo hi : ℕ)
    (el : lo ≡ bit_and (low_word w x) (low_word s z)) (eh : hi ≡ bit_and (high_word w x) (high_word s z)) where
  meet_low : lo < 2 ^ 64 → (lo ≡ 0 → ⊥) → Meet w x s z
  meet_low l ne =
      let p = common_bit (low_word w x) (low_word s z) (rw el at l) (rw el at ne) in
      let i = p.0 in
      let h = p.1 in
      (i, omega arith, at_low w x i h ∙ p.2, at_low s z i h ∙ p.3)

  meet_high : hi < 2 ^ 64 → (hi ≡ 0 → ⊥) → Meet w x s z
  meet_high h ne =
      let p = common_bit (high_word w x) (high_word s z) (rw eh at h) (rw eh at ne) in
      let i = p.0 in
      let h = p.1 in
      let l : 64 + i < 128 = omega arith in
      let e : 64 + i - 64 ≡ i = omega arith in
      (64 + i, l, at_high w x (64 + i) (omega arith) l ∙ rw e p.2, at_high s z (64 + i) (omega arith) l ∙ rw e p.3)

  meet_none : lo ≡ 0 → hi ≡ 0 → Meet w x s z → ⊥
  meet_none zl zh m = by (dec_lt m.0 64)
    where
      by : Dec (m.0 < 64) → ⊥
      by (yes h) =
          no_common (low_word w x) (low_word s z) m.0 (sym el ∙ zl) (sym (at_low w x m.0 h) ∙ m.2) (sym (at_low s z m.0 h) ∙ m.3)
      by (no h) =
          let k : 64 ≤ m.0 = omega arith in
          no_common (high_word w x) (high_word s z) (m.0 - 64) (sym eh ∙ zh)
          (sym (at_high w x m.0 k m.1) ∙ m.2)
          (sym (at_high s z m.0 k m.1) ∙ m.3)

  pub meets : lo < 2 ^ 64 → hi < 2 ^ 64 → {r : Bool} → r ≡ not (eqb lo 0 && eqb hi 0) → Tells r (Meet w x s z)
  meets l h e = rw e (by (eqb lo 0) refl (eqb hi 0) refl)
    where
      by : (b : Bool) → eqb lo 0 ≡ b → (d : Bool) → eqb hi 0 ≡ d → Tells (not (b && d)) (Meet w x s z)
      by true p true q = meet_none (eqb-true _ _ p) (eqb-true _ _ q)
      by true p false q = meet_high h (eqb-false _ _ q)
      by false p d q = meet_low l (eqb-false _ _ p)

-- ---- both words asked for

-- what a yes to whether both are equal says
pub both_same : (A : Type 0) {r : Bool} (p q x y : ℕ) → r ≡ (eqb p q && eqb x y) → (p ≡ q → x ≡ y → A) → Vouches r A
both_same A p q x y e f = rw e (by (eqb p q) refl (eqb x y) refl)
  where
    by : (s : Bool) → eqb p q ≡ s → (t : Bool) → eqb x y ≡ t → Vouches (s && t) A
    by true g true h = f (eqb-true _ _ g) (eqb-true _ _ h)
    by true g false h = tt
    by false g t h = tt

-- ---- all that another has

pub covers : (w : List ℕ) (k a : ℕ) → bit_and (low_word w k) (low_word w a) ≡ low_word w k
    → bit_and (high_word w k) (high_word w a) ≡ high_word w k → Covers w a k
covers w k a lo hi y hy h = by (dec_lt y 64)
  where
    word : (x z i : ℕ) → bit_and x z ≡ x → bit x i ≡ 1 → bit z i ≡ 1
    word x z i e b = let c = bit_and_lem x z i in let d : bit (bit_and x z) i ≡ bit x i = ap (λ (u : ℕ). bit u i) e in omega (arith, bit_le z i)

    by : Dec (y < 64) → Has w a y
    by (yes l) = at_low w a y l ∙ word _ _ y lo (sym (at_low w k y l) ∙ h)
    by (no l) = let i : 64 ≤ y = omega arith in at_high w a y i hy ∙ word _ _ (y - 64) hi (sym (at_high w k y i hy) ∙ h)

-- ---- the same words

-- the rows x and y have the same words
abbrev pub SameWords : List ℕ → ℕ → ℕ → Type 0
SameWords w x y = (low_word w x ≡ low_word w y) × (high_word w x ≡ high_word w y)

alike : (w : List ℕ) (x y : ℕ) → SameWords w x y → Alike w x y
alike w x y e z hz = by (dec_lt z 64)
  where
    by : Dec (z < 64) → at w x z ≡ at w y z
    by (yes l) = at_low w x z l ∙ ap (λ (u : ℕ). bit u z) e.0 ∙ sym (at_low w y z l)
    by (no l) = let i : 64 ≤ z = omega arith in at_high w x z i hz ∙ ap (λ (u : ℕ). bit u (z - 64)) e.1 ∙ sym (at_high w y z i hz)

-- what is found among the rows before row x, or x
pub earlier : (w : List ℕ) (x s : ℕ) (A : Type 0) (B : ℕ → Type 0) (o : Option ℕ)
    → MatchOption o A (λ i. (s ≤ i) × (i < x) × SameWords w x i × B i) → Earlier w x (unwrap_or o x)
earlier w x s A B None h = record { low = omega arith; same = λ l. absurd (omega arith) }
earlier w x s A B (Some i) h = record { low = omega (arith, h.1); same = λ l. alike w x i h.2 }
