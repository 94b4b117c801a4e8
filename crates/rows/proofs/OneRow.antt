-- One row poured into, sifted, emptied or copied.
use mathlib.Core.Path.{◌≡◌, sym, ap, ◌∙◌}
use mathlib.Core.Logic.{◌⊎◌, inl, inr}
use mathlib.Core.List.{List}
use Prim.Native.Nat.{ℕ, ◌+◌, ◌-◌, ◌*◌, ◌≤◌, ◌<◌}
use native.Mathlib.Omega.{arith}
use native.Mathlib.Decide.{dec_lt, ℕ_discrete}
use lib.ListN.{length}
use Rattle.rows.specs.Inner.Rows.{bit, low_word, high_word, with_words, at, Has}
use Rattle.rows.specs.Inner.Touched.{Mixed, Poured, Sifted, Emptied, Copied}
use Rattle.rows.proofs.Bit.{bit_zero}
use Rattle.rows.proofs.Places.{at_le, row_or_rest, at_low, at_high, stored_low, stored_high, stored_rest}

-- row a with its words combined with those of row k of u: words combined by op are bits combined by g
pub mixed : (op g : ℕ → ℕ → ℕ) → ((x y i : ℕ) → bit (op x y) i ≡ g (bit x i) (bit y i))
    → {u w v : List ℕ} {a k lo hi : ℕ} → 2 * a + 1 < length w
    → lo ≡ op (low_word w a) (low_word u k) → hi ≡ op (high_word w a) (high_word u k)
    → v ≡ with_words w a lo hi → Mixed g u w v a k
mixed op g law {u} {w} {v} {a} {k} {lo} {hi} long el eh e =
    rw e (record { row = λ z hz. row z hz (dec_lt z 64); rest = stored_rest w a lo hi long })
  where
    row : (z : ℕ) → z < 128 → Dec (z < 64) → at (with_words w a lo hi) a z ≡ g (at w a z) (at u k z)
    row z hz (yes h) =
        let ew = at_low w a z h in
        let eu = at_low u k z h in
        stored_low w a lo hi long z h ∙ cc (ap (λ (x : ℕ). bit x z) el, law (low_word w a) (low_word u k) z)
    row z hz (no h) =
        let ew = at_high w a z (omega arith) hz in
        let eu = at_high u k z (omega arith) hz in
        stored_high w a lo hi long z (omega arith) hz ∙ cc (ap (λ (x : ℕ). bit x (z - 64)) eh, law (high_word w a) (high_word u k) (z - 64))

-- a row after 0 is stored in both its words
pub emptied : {w v : List ℕ} {a : ℕ} → 2 * a + 1 < length w → v ≡ with_words w a 0 0 → Emptied w v a
emptied {w} {v} {a} long e = rw e (record { row = λ y hy h. row y hy h (dec_lt y 64); rest = stored_rest w a 0 0 long })
  where
    row : (y : ℕ) → y < 128 → Has (with_words w a 0 0) a y → Dec (y < 64) → ⊥
    row y hy h (yes l) = omega (arith, stored_low w a 0 0 long y l, bit_zero y)
    row y hy h (no l) = omega (arith, stored_high w a 0 0 long y (omega arith) hy, bit_zero (y - 64))

-- a row that is poured into has what it had and what row k has; one that is sifted has what both have
module _ (u w v : List ℕ) (a k : ℕ) where
  pub poured_gives : Poured u w v a k → (y : ℕ) → y < 128 → Has v a y → Has w a y ⊎ Has u k y
  poured_gives p y l h = by (ℕ_discrete (at w a y) 1)
    where
      by : Dec (at w a y ≡ 1) → Has w a y ⊎ Has u k y
      by (yes e) = inl e
      by (no e) = inr (omega (arith, p.row y l, at_le w a y, at_le u k y))

  pub poured_brings : Poured u w v a k → (y : ℕ) → y < 128 → Has u k y → Has v a y
  poured_brings p y l h = omega (arith, p.row y l, at_le w a y)

  pub poured_keeps : Poured u w v a k → (x y : ℕ) → y < 128 → Has w x y → Has v x y
  poured_keeps p x y l =
      row_or_rest (λ x. Has w x y → Has v x y) a (λ h. omega (arith, p.row y l, at_le u k y)) (λ x e h. p.rest x y l e ∙ h) x

  pub sifted_gives : Sifted u w v a k → (y : ℕ) → y < 128 → Has v a y → Has w a y × Has u k y
  sifted_gives p y l h = (omega (arith, p.row y l, at_le w a y, at_le u k y), omega (arith, p.row y l, at_le w a y, at_le u k y))

  pub sifted_keeps : Sifted u w v a k → (y : ℕ) → y < 128 → Has w a y → Has u k y → Has v a y
  sifted_keeps p y l h g = omega (arith, p.row y l)

-- a row after the words of row a of m are stored in it
pub copied : (m s : List ℕ) {v : List ℕ} (a : ℕ) {lo hi : ℕ} → 1 < length s
    → lo ≡ low_word m a → hi ≡ high_word m a → v ≡ with_words s 0 lo hi → Copied m a v
copied m s {v} a {lo} {hi} long el eh e = rw e (record { same = λ y l. of y l (dec_lt y 64) })
  where
    of : (y : ℕ) → y < 128 → Dec (y < 64) → at (with_words s 0 lo hi) 0 y ≡ at m a y
    of y l (yes h) = stored_low s 0 lo hi long y h ∙ ap (λ (x : ℕ). bit x y) el ∙ sym (at_low m a y h)
    of y l (no h) =
        let k : 64 ≤ y = omega arith in
        stored_high s 0 lo hi long y k l ∙ ap (λ (x : ℕ). bit x (y - 64)) eh ∙ sym (at_high m a y k l)
