-- The rows of refusal 18: one applies exactly where its node is not entered, and the first is that of the lowest such node.
use mathlib.Core.Path.{◌≡◌, refl, sym, subst, ◌∙◌}
use mathlib.Core.Bool.{true, false, not, true≢false}
use Prim.Native.Nat.{ℕ, zero, suc, ◌+◌, ◌≤◌, ◌<◌}
use native.Mathlib.Omega.{arith}
use native.Mathlib.Decide.{ℕ_discrete}
use Rattle.listing.specs.Node.{Listing}
use Rattle.listing.specs.Rules.{passed, refused, first_of, NoneApplies}
use Rattle.listing.proofs.Table.{row_passes, row_applies}
use Rattle.order.specs.Entered.{Entered}
use Rattle.order.proofs.Entering.{entered?}
use Rattle.reader.specs.Read.{is_yes, dead, dead_rules}

module _ (L : Listing) where
  pub dead_no : (a : ℕ) → dead L a ≡ false → Entered L a
  unfolding dead
  dead_no a e = go (entered? L a) e
    where
      go : (d : Dec (Entered L a)) → not (is_yes d) ≡ false → Entered L a
      go (yes h) f = h
      go (no h) f = absurd (true≢false f)

  pub no_dead : (a : ℕ) → Entered L a → dead L a ≡ false
  unfolding dead
  no_dead a h = go (entered? L a)
    where
      go : (d : Dec (Entered L a)) → not (is_yes d) ≡ false
      go (yes k) = refl
      go (no k) = absurd (k h)

  pub is_dead : (a : ℕ) → (Entered L a → ⊥) → dead L a ≡ true
  unfolding dead
  is_dead a h = go (entered? L a)
    where
      go : (d : Dec (Entered L a)) → not (is_yes d) ≡ true
      go (yes k) = absurd (h k)
      go (no k) = refl

  -- NO ROW APPLIES EXACTLY IF EVERY NODE IS ENTERED
  pub rows_none : (i k : ℕ) → ((z : ℕ) → i ≤ z → z < i + k → Entered L z) → first_of (dead_rules L i k) ≡ passed
  rows_none i zero f = refl
  rows_none i (suc k) f =
      row_passes 18 i (first_of (dead_rules L (suc i) k)) (no_dead i (f i (omega arith) (omega arith)))
      ∙ rows_none (suc i) k (λ z l h. f z (omega arith) (omega arith))

  pub none_rows : (i k : ℕ) → NoneApplies (dead_rules L i k) → (z : ℕ) → i ≤ z → z < i + k → Entered L z
  none_rows i zero n z l h = absurd (omega arith)
  none_rows i (suc k) n z l h = go (ℕ_discrete i z) (λ m. none_rows (suc i) k n.1 z m (omega arith))
    where
      go : Dec (i ≡ z) → (suc i ≤ z → Entered L z) → Entered L z
      go (yes e) rest = subst (Entered L) e (dead_no i n.0)
      go (no m) rest = rest (omega arith)

  -- AND ELSE THE FIRST IS THAT OF THE LOWEST NODE THAT IS NOT
  pub rows_first : (i k r : ℕ) → i ≤ r → r < i + k → ((z : ℕ) → i ≤ z → z < r → Entered L z) → (Entered L r → ⊥)
      → first_of (dead_rules L i k) ≡ refused 18 r
  rows_first i zero r l h f d = absurd (omega arith)
  rows_first i (suc k) r l h f d = go (ℕ_discrete i r) (λ m. rows_first (suc i) k r m (omega arith) (λ z j o. f z (omega arith) o) d)
    where
      go : Dec (i ≡ r) → (suc i ≤ r → first_of (dead_rules L (suc i) k) ≡ refused 18 r) → first_of (dead_rules L i (suc k)) ≡ refused 18 r
      go (yes e) rest = subst (λ (x : ℕ). first_of (dead_rules L i (suc k)) ≡ refused 18 x) e
          (row_applies 18 i (first_of (dead_rules L (suc i) k)) (is_dead i (subst (λ (x : ℕ). Entered L x → ⊥) (sym e) d)))
      go (no m) rest = row_passes 18 i (first_of (dead_rules L (suc i) k)) (no_dead i (f i (omega arith) (omega arith))) ∙ rest (omega arith)
