-- How many have no distance.
use mathlib.Core.Path.{◌≡◌, ap}
use mathlib.Core.Bool.{Bool, true, false}
use mathlib.Core.List.{List, [], ◌∷◌}
use Prim.Native.Nat.{ℕ, zero, suc, ◌+◌, ◌≤◌, ◌<◌}
use native.Mathlib.Omega.{arith}
use native.Mathlib.Decide.{dec_le}
use borrow.Author.Tests.{ne_eqb, eq-eqb}
use lib.Dec.{eqb}
use lib.ListN.{length, get_or, set}
use Rattle.chains.specs.Inner.Far.{unreached}
use Rattle.chains.specs.Inner.Levels.{free, unset}

free_le : (b : Bool) → free b ≤ 1
free_le true = omega arith
free_le false = omega arith

pub unset_le : (l : List ℕ) → unset l ≤ length l
unfolding unset
unset_le [] = omega arith
unset_le (v ∷ l) = let h = unset_le l in omega (arith, free_le (eqb v unreached))

-- where one has a distance, not all have none
pub unset_lt : (l : List ℕ) (i : ℕ) → i < length l → (get_or l i 0 ≡ unreached → ⊥) → unset l < length l
unfolding unset
unset_lt [] i h n = absurd (omega arith)
unset_lt (v ∷ l) zero h n =
    let q : free (eqb v unreached) ≡ 0 = ap free (ne_eqb v unreached n) in
    omega (arith, unset_le l)
unset_lt (v ∷ l) (suc i) h n = let r = unset_lt l i (omega arith) n in omega (arith, free_le (eqb v unreached))

-- where none from n to k has a distance, k - n have none
pub unset_ge : (l : List ℕ) (k n : ℕ) → ((i : ℕ) → n ≤ i → i < k → get_or l i 0 ≡ unreached) → k ≤ n + unset l
unfolding unset
unset_ge [] k n f = by (dec_le k n)
  where
    by : Dec (k ≤ n) → k ≤ n + 0
    by (yes h) = omega arith
    by (no h) = absurd (let e : 0 ≡ unreached = f n (omega arith) (omega arith) in omega arith)
unset_ge (v ∷ l) zero n f = omega arith
unset_ge (v ∷ l) (suc k) zero f =
    let p : free (eqb v unreached) ≡ 1 = ap free (eq-eqb v unreached (f 0 (omega arith) (omega arith))) in
    let r = unset_ge l k zero (λ i a b. f (suc i) (omega arith) (omega arith)) in
    omega arith
unset_ge (v ∷ l) (suc k) (suc n) f = let r = unset_ge l k n (λ i a b. f (suc i) (omega arith) (omega arith)) in omega arith

-- A NODE THAT IS GIVEN A DISTANCE IS ONE LESS WITHOUT
pub unset_set : (l : List ℕ) (i v : ℕ) → i < length l → get_or l i 0 ≡ unreached → (v ≡ unreached → ⊥) → 1 + unset (set l i v) ≡ unset l
unfolding unset
unset_set [] i v h e n = absurd (omega arith)
unset_set (u ∷ l) zero v h e n =
    let p : free (eqb u unreached) ≡ 1 = ap free (eq-eqb u unreached e) in
    let q : free (eqb v unreached) ≡ 0 = ap free (ne_eqb v unreached n) in
    omega arith
unset_set (u ∷ l) (suc i) v h e n = let r = unset_set l i v (omega arith) e n in omega arith
