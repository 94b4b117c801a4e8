-- Rows over a finite list of entries are found by computation.
use mathlib.Core.Path.{◌≡◌, refl, sym, ap, subst}
use mathlib.Core.Logic.{◌⊎◌, inl, inr}
use mathlib.Core.List.{List, [], ◌∷◌, ◌++◌, map}
use mathlib.Core.Bool.{Bool, ◌&&◌, ◌||◌}
use Prim.Native.Nat.{ℕ, zero, suc, ◌≤◌}
use native.Mathlib.Omega.{arith}
use native.Mathlib.Decide.{ℕ_discrete}
use lib.Dec.{T}
use lib.ListN.{length}
use Rattle.order.specs.Rows.{All, In, some, Row}
use Rattle.listing.proofs.Bools.{both, both→, one, one→}
use Rattle.order.proofs.Lists.{all_in, in_all, in_left, in_right, in_either, pigeons}
use Rattle.order.proofs.Lists.{keep_if, keep, in_keep_if, keep_if_in, in_keep, keep_in, some_in, in_some}
use Rattle.order.proofs.Mapped.{in_mapped, mapped_in}
use Rattle.order.proofs.Shorten.{Simple, simple}

module _ {A : Type 0} (univ : List A) (ok : A → Bool) (r : A → A → Bool) where
  abbrev pub before : List A → List A
  before s = keep (λ x. ok x && some (r x) s) univ

  -- the entries with a row to z that has exactly k entries inside
  abbrev pub back : ℕ → A → List A
  back zero z = before (z ∷ [])
  back (suc k) z = before (back k z)

  -- a row with exactly k entries inside
  abbrev pub hit : ℕ → A → A → Bool
  hit zero a z = r a z
  hit (suc k) a z = some (r a) (back k z)

  -- a row with at most n entries inside
  abbrev pub hits : ℕ → A → A → Bool
  hits zero a z = hit zero a z
  hits (suc n) a z = hits n a z || hit (suc n) a z

  abbrev R : A → A → Type 0
  R a b = T (r a b)

  abbrev pub Good : A → Type 0
  Good x = In x univ × T (ok x)

  abbrev pub Found : A → A → Type 0
  Found a z = (xs : List A) × Row R a xs z × All Good xs

  back_sound : (k : ℕ) (x z : A) → In x (back k z) → Good x × Found x z
  back_sound zero x z i =
      let g = keep_in (λ x. ok x && some (r x) (z ∷ [])) univ x i in
      let h = both→ (ok x) (some (r x) (z ∷ [])) g.1 in
      let s = some_in (r x) (z ∷ []) h.1 in
      ((g.0, h.0), ([], subst (R x) (elim s.1 [ inl e ↦ e | inr j ↦ absurd j ]) s.2, tt))
  back_sound (suc k) x z i =
      let g = keep_in (λ x. ok x && some (r x) (back k z)) univ x i in
      let h = both→ (ok x) (some (r x) (back k z)) g.1 in
      let s = some_in (r x) (back k z) h.1 in
      let f = back_sound k s.0 z s.1 in
      ((g.0, h.0), (s.0 ∷ f.1.0, (s.2, f.1.1), (f.0, f.1.2)))

  back_complete : (xs : List A) (x z : A) → Row R x xs z → All Good (x ∷ xs) → In x (back (length xs) z)
  back_complete [] x z h g =
      in_keep (λ x. ok x && some (r x) (z ∷ [])) univ x g.0.0
      (both (ok x) (some (r x) (z ∷ [])) g.0.1 (in_some (r x) (z ∷ []) z (inl refl) h))
  back_complete (y ∷ ys) x z h g =
      in_keep (λ x. ok x && some (r x) (back (length ys) z)) univ x g.0.0
      (both (ok x) (some (r x) (back (length ys) z)) g.0.1 (in_some (r x) (back (length ys) z) y (back_complete ys y z h.1 g.1) h.0))

  pub hits_sound : (n : ℕ) (a z : A) → T (hits n a z) → Found a z
  hits_sound zero a z t = ([], t, tt)
  hits_sound (suc n) a z t = go (one→ (hits n a z) (hit (suc n) a z) t) (λ s. hits_sound n a z s)
    where
      go : T (hits n a z) ⊎ T (hit (suc n) a z) → (T (hits n a z) → Found a z) → Found a z
      go (inl s) f = f s
      go (inr s) f =
          let g = some_in (r a) (back n z) s in
          let b = back_sound n g.0 z g.1 in
          (g.0 ∷ b.1.0, (g.2, b.1.1), (b.0, b.1.2))

  hits_at : (n k : ℕ) (a z : A) → k ≤ n → T (hit k a z) → T (hits n a z)
  hits_at zero k a z h t = let e : k ≡ 0 = omega arith in subst (λ (m : ℕ). T (hit m a z)) e t
  hits_at (suc n) k a z h t = go (ℕ_discrete k (suc n)) (λ l. hits_at n k a z l t)
    where
      go : Dec (k ≡ suc n) → (k ≤ n → T (hits n a z)) → T (hits (suc n) a z)
      go (yes e) f = one (hits n a z) (hit (suc n) a z) (inr (subst (λ (m : ℕ). T (hit m a z)) e t))
      go (no m) f = one (hits n a z) (hit (suc n) a z) (inl (f (omega arith)))

  module _ (eq : Discrete A) where
    -- of every row through good entries the search finds one
    pub hits_complete : (a z : A) (xs : List A) → Row R a xs z → All Good xs → T (hits (length univ) a z)
    hits_complete a z [] h g = hits_at (length univ) 0 a z (omega arith) h
    hits_complete a z (y ∷ ys) h g =
        hits_at (length univ) (suc (length s.inside)) a z
        (pigeons (y ∷ s.inside) univ s.different (λ x i. (all_in Good (y ∷ s.inside) k x i).0))
        (in_some (r a) (back (length s.inside) z) y (back_complete s.inside y z s.row k) h.0)
      where
        s : Simple eq R y ys z
        s = simple eq R y ys z h.1

        k : All Good (y ∷ s.inside)
        k = (g.0, in_all Good s.inside (λ x i. all_in Good ys g.1 x (s.among x i)))

module _ {A : Type 0} where
  abbrev pub flat : (A → List (List A)) → List A → List (List A)
  flat f [] = []
  flat f (x ∷ xs) = f x ++ flat f xs

  in_flat : (f : A → List (List A)) (xs : List A) (x : A) (l : List A) → In x xs → In l (f x) → In l (flat f xs)
  in_flat f [] x l i j = i
  in_flat f (y ∷ ys) x l (inl e) j = in_left (f y) (flat f ys) l (subst (λ (v : A). In l (f v)) e j)
  in_flat f (y ∷ ys) x l (inr i) j = in_right (f y) (flat f ys) l (in_flat f ys x l i j)

  flat_in : (f : A → List (List A)) (xs : List A) (l : List A) → In l (flat f xs) → (x : A) × In x xs × In l (f x)
  flat_in f [] l i = absurd i
  flat_in f (y ∷ ys) l i = go (in_either (f y) (flat f ys) l i) (λ j. flat_in f ys l j)
    where
      go : In l (f y) ⊎ In l (flat f ys) → (In l (flat f ys) → (x : A) × In x ys × In l (f x)) → (x : A) × In x (y ∷ ys) × In l (f x)
      go (inl j) k = (y, inl refl, j)
      go (inr j) k = let g = k j in (g.0, inr g.1, g.2)

module _ {A : Type 0} (univ : List A) (r : A → A → Bool) where
  -- all the rows with exactly k entries inside
  abbrev pub rows : ℕ → A → A → List (List A)
  rows zero a z = keep_if (r a z) [] []
  rows (suc k) a z = flat (λ c. map (λ l. c ∷ l) (rows k c z)) (keep (r a) univ)

  pub rows_complete : (xs : List A) (a z : A) → Row (λ x y. T (r x y)) a xs z → All (λ x. In x univ) xs → In xs (rows (length xs) a z)
  rows_complete [] a z h g = in_keep_if (r a z) [] [] [] h (inl refl)
  rows_complete (y ∷ ys) a z h g =
      in_flat (λ c. map (λ l. c ∷ l) (rows (length ys) c z)) (keep (r a) univ) y (y ∷ ys)
      (in_keep (r a) univ y g.0 h.0)
      (in_mapped (λ l. y ∷ l) (rows (length ys) y z) ys (rows_complete ys y z h.1 g.1))

  -- they are rows of listed entries, and of that length
  abbrev pub Rowed : ℕ → A → A → List A → Type 0
  Rowed k a z xs = Row (λ x y. T (r x y)) a xs z × All (λ x. In x univ) xs × (length xs ≡ k)

  pub rows_sound : (k : ℕ) (a z : A) (xs : List A) → In xs (rows k a z) → Rowed k a z xs
  rows_sound zero a z xs i = go (keep_if_in (r a z) [] [] xs i)
    where
      go : ((xs ≡ []) × T (r a z)) ⊎ In xs [] → Rowed 0 a z xs
      go (inl h) = subst (Rowed 0 a z) (sym h.0) (h.1, tt, refl)
      go (inr j) = absurd j
  rows_sound (suc k) a z xs i =
      let f = flat_in (λ c. map (λ l. c ∷ l) (rows k c z)) (keep (r a) univ) xs i in
      let c = keep_in (r a) univ f.0 f.1 in
      let h = mapped_in (λ l. f.0 ∷ l) (rows k f.0 z) xs f.2 in
      let g = rows_sound k f.0 z h.0 h.1 in
      subst (Rowed (suc k) a z) (sym h.2) ((c.1, g.0), (c.0, g.1), ap suc g.2)
