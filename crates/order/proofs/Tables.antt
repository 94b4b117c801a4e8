-- A rule of a table, proved at all of its entries by one test that is computed.
use mathlib.Core.Path.{◌≡◌, subst, sym, ◌∙◌}
use mathlib.Core.Bool.{Bool, true, ◌&&◌}
use mathlib.Core.List.{List, [], ◌∷◌}
use Prim.Native.Nat.{ℕ, zero, suc, ◌+◌, ◌<◌}
use native.Mathlib.Nat.{add-zero, zero-add, add-suc, suc-add, le_of_suc-le-suc, not-suc-le-zero}
use lib.Dec.{T, eqb, eqb→eq}
use lib.ListN.{length, get_or}
use Rattle.listing.proofs.Bools.{both→}

sized : (a b : ℕ) (x : Bool) → T (eqb a b && x) → (a ≡ b) × T x
sized a b x t = let h = both→ (eqb a b) x t in (eqb→eq a b h.0, h.1)

module _ {A : Type 0} (f : ℕ → A → Bool) where
  -- the test passes at each entry and its place, counted from i
  abbrev pub every_from : ℕ → List A → Bool
  every_from i [] = true
  every_from i (x ∷ xs) = f i x && every_from (suc i) xs

module _ {A : Type 0} (f : ℕ → A → Bool) (d : A) where
  from : (xs : List A) (i : ℕ) → T (every_from f i xs) → (k : ℕ) → k < length xs → T (f (i + k) (get_or xs k d))
  from [] i t k h = absurd (not-suc-le-zero h)
  from (x ∷ xs) i t zero h = subst (λ (m : ℕ). T (f m x)) (sym (add-zero i)) (both→ (f i x) (every_from f (suc i) xs) t).0
  from (x ∷ xs) i t (suc k) h =
      subst (λ (m : ℕ). T (f m (get_or xs k d))) (suc-add i k ∙ sym (add-suc i k))
      (from xs (suc i) (both→ (f i x) (every_from f (suc i) xs) t).1 k (le_of_suc-le-suc h))

  at : (xs : List A) → T (every_from f 0 xs) → (k : ℕ) → k < length xs → T (f k (get_or xs k d))
  at xs t k h = subst (λ (m : ℕ). T (f m (get_or xs k d))) (zero-add k) (from xs 0 t k h)

-- the entries' rule by their places, as one test
module _ (rule : ℕ → ℕ) where
  abbrev cell : ℕ → ℕ → Bool
  cell i x = eqb x (rule i)

  abbrev pub right_all : ℕ → List ℕ → Bool
  right_all n l = eqb (length l) n && every_from cell 0 l

  -- A TABLE THAT PASSES THE TEST HAS THE RULE AT EVERY ENTRY
  pub right_at : (n : ℕ) (t : List ℕ) → T (right_all n t) → (i : ℕ) → i < n → get_or t i 0 ≡ rule i
  right_at n t ok i h =
      let o = sized (length t) n (every_from cell 0 t) ok in
      eqb→eq (get_or t i 0) (rule i) (at cell 0 t o.1 i (rw o.0 h))
