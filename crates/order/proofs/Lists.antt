-- Lists of any type: membership, cutting and joining, rows, entries kept by a test, and the pigeonhole.
use mathlib.Core.Path.{◌≡◌, refl, sym, ap, subst}
use mathlib.Core.Logic.{◌⊎◌, inl, inr}
use mathlib.Core.List.{List, [], ◌∷◌, ◌++◌}
use mathlib.Core.Bool.{Bool, true, false, ◌&&◌}
use Prim.Native.Nat.{ℕ, zero, suc, ◌≤◌, ◌<◌}
use native.Mathlib.Omega.{arith}
use native.Mathlib.Decide.{ℕ_discrete}
use lib.Dec.{T}
use lib.ListN.{length, length-append}
use Rattle.order.specs.Rows.{All, In, some, Different, Row}
use Rattle.listing.proofs.Bools.{one, one→}

module _ {A : Type 0} where
  pub all_in : (p : A → Type 0) (xs : List A) → All p xs → (x : A) → In x xs → p x
  all_in p [] h x i = absurd i
  all_in p (y ∷ ys) h x (inl e) = subst p (sym e) h.0
  all_in p (y ∷ ys) h x (inr i) = all_in p ys h.1 x i

  pub in_all : (p : A → Type 0) (xs : List A) → ((x : A) → In x xs → p x) → All p xs
  in_all p [] h = tt
  in_all p (y ∷ ys) h = (h y (inl refl), in_all p ys (λ x i. h x (inr i)))

  pub all_append : (p : A → Type 0) (xs ys : List A) → All p xs → All p ys → All p (xs ++ ys)
  all_append p [] ys h k = k
  all_append p (x ∷ xs) ys h k = (h.0, all_append p xs ys h.1 k)

  pub in_left : (xs ys : List A) (x : A) → In x xs → In x (xs ++ ys)
  in_left [] ys x i = absurd i
  in_left (y ∷ xs) ys x (inl e) = inl e
  in_left (y ∷ xs) ys x (inr i) = inr (in_left xs ys x i)

  pub in_right : (xs ys : List A) (x : A) → In x ys → In x (xs ++ ys)
  in_right [] ys x i = i
  in_right (y ∷ xs) ys x i = inr (in_right xs ys x i)

  pub in_either : (xs ys : List A) (x : A) → In x (xs ++ ys) → In x xs ⊎ In x ys
  in_either [] ys x i = inr i
  in_either (y ∷ xs) ys x (inl e) = inl (inl e)
  in_either (y ∷ xs) ys x (inr i) = go (in_either xs ys x i)
    where
      go : In x xs ⊎ In x ys → In x (y ∷ xs) ⊎ In x ys
      go (inl j) = inl (inr j)
      go (inr j) = inr j

  -- a list is cut at one of its entries
  abbrev pub Cut : List A → A → Type 0
  Cut xs x = (us : List A) × (vs : List A) × (xs ≡ us ++ (x ∷ vs))

  pub cut : (xs : List A) (x : A) → In x xs → Cut xs x
  cut [] x i = absurd i
  cut (y ∷ ys) x (inl e) = ([], ys, rw e)
  cut (y ∷ ys) x (inr i) = let c = cut ys x i in (y ∷ c.0, c.1, ap (λ (v : List A). y ∷ v) c.2)

  pub different_right : (us vs : List A) → Different (us ++ vs) → Different vs
  different_right [] vs d = d
  different_right (u ∷ us) vs d = different_right us vs d.1

  module _ (r : A → A → Type 0) where
    pub row_join : (a : A) (xs : List A) (m : A) (ys : List A) (z : A) → Row r a xs m → Row r m ys z → Row r a (xs ++ (m ∷ ys)) z
    row_join a [] m ys z h k = (h, k)
    row_join a (x ∷ xs) m ys z h k = (h.0, row_join x xs m ys z h.1 k)

    pub row_before : (a : A) (xs : List A) (m : A) (ys : List A) (z : A) → Row r a (xs ++ (m ∷ ys)) z → Row r a xs m
    row_before a [] m ys z h = h.0
    row_before a (x ∷ xs) m ys z h = (h.0, row_before x xs m ys z h.1)

    pub row_after : (a : A) (xs : List A) (m : A) (ys : List A) (z : A) → Row r a (xs ++ (m ∷ ys)) z → Row r m ys z
    row_after a [] m ys z h = h.1
    row_after a (x ∷ xs) m ys z h = row_after x xs m ys z h.1

  -- a row by one relation is one by another that follows from it
  pub row_map : (r s : A → A → Type 0) → ((a b : A) → r a b → s a b) → (a : A) (xs : List A) (z : A) → Row r a xs z → Row s a xs z
  row_map r s f a [] z h = f a z h
  row_map r s f a (x ∷ xs) z h = (f a x h.0, row_map r s f x xs z h.1)

  -- the entries that pass a test; whether all do
  abbrev pub keep_if : Bool → A → List A → List A
  keep_if true x xs = x ∷ xs
  keep_if false x xs = xs

  abbrev pub keep : (A → Bool) → List A → List A
  keep p [] = []
  keep p (x ∷ xs) = keep_if (p x) x (keep p xs)

  abbrev pub every : (A → Bool) → List A → Bool
  every p [] = true
  every p (x ∷ xs) = p x && every p xs

  pub in_keep_if : (b : Bool) (y : A) (ys : List A) (x : A) → T b → In x (y ∷ ys) → In x (keep_if b y ys)
  in_keep_if true y ys x t i = i
  in_keep_if false y ys x t i = absurd t

  in_keep_if_tail : (b : Bool) (y : A) (ys : List A) (x : A) → In x ys → In x (keep_if b y ys)
  in_keep_if_tail true y ys x i = inr i
  in_keep_if_tail false y ys x i = i

  pub keep_if_in : (b : Bool) (y : A) (ys : List A) (x : A) → In x (keep_if b y ys) → ((x ≡ y) × T b) ⊎ In x ys
  keep_if_in true y ys x (inl e) = inl (e, tt)
  keep_if_in true y ys x (inr i) = inr i
  keep_if_in false y ys x i = inr i

  pub in_keep : (p : A → Bool) (xs : List A) (x : A) → In x xs → T (p x) → In x (keep p xs)
  in_keep p [] x i t = i
  in_keep p (y ∷ ys) x (inl e) t = in_keep_if (p y) y (keep p ys) x (subst (λ (v : A). T (p v)) e t) (inl e)
  in_keep p (y ∷ ys) x (inr i) t = in_keep_if_tail (p y) y (keep p ys) x (in_keep p ys x i t)

  pub keep_in : (p : A → Bool) (xs : List A) (x : A) → In x (keep p xs) → In x xs × T (p x)
  keep_in p [] x i = absurd i
  keep_in p (y ∷ ys) x i = go (keep_if_in (p y) y (keep p ys) x i) (λ j. keep_in p ys x j)
    where
      go : ((x ≡ y) × T (p y)) ⊎ In x (keep p ys) → (In x (keep p ys) → In x ys × T (p x)) → In x (y ∷ ys) × T (p x)
      go (inl e) f = (inl e.0, subst (λ (v : A). T (p v)) (sym e.0) e.1)
      go (inr j) f = let g = f j in (inr g.0, g.1)

  pub some_in : (p : A → Bool) (xs : List A) → T (some p xs) → (x : A) × In x xs × T (p x)
  some_in p [] t = absurd t
  some_in p (y ∷ ys) t = go (one→ (p y) (some p ys) t) (λ s. some_in p ys s)
    where
      go : T (p y) ⊎ T (some p ys) → (T (some p ys) → (x : A) × In x ys × T (p x)) → (x : A) × In x (y ∷ ys) × T (p x)
      go (inl s) f = (y, inl refl, s)
      go (inr s) f = let g = f s in (g.0, inr g.1, g.2)

  pub in_some : (p : A → Bool) (xs : List A) (x : A) → In x xs → T (p x) → T (some p xs)
  in_some p [] x i t = i
  in_some p (y ∷ ys) x (inl e) t = one (p y) (some p ys) (inl (subst (λ (v : A). T (p v)) e t))
  in_some p (y ∷ ys) x (inr i) t = one (p y) (some p ys) (inr (in_some p ys x i t))

  -- different entries of a list are no more than its entries
  pub pigeons : (xs us : List A) → Different xs → ((x : A) → In x xs → In x us) → length xs ≤ length us
  pigeons [] us d h = omega arith
  pigeons (x ∷ xs) us d h = go (cut us x (h x (inl refl))) (λ vs k. pigeons xs vs d.1 k)
    where
      go : Cut us x → ((vs : List A) → ((y : A) → In y xs → In y vs) → length xs ≤ length vs) → length (x ∷ xs) ≤ length us
      go c f =
          let k : length xs ≤ length (c.0 ++ c.1) = f (c.0 ++ c.1) rest in
          omega (arith, simp length-append at k, simp length-append at (ap length c.2))
        where
          side : (y : A) → In y xs → In y c.0 ⊎ In y (x ∷ c.1) → In y (c.0 ++ c.1)
          side y i (inl j) = in_left c.0 c.1 y j
          side y i (inr (inl e)) = absurd (d.0 (subst (λ (v : A). In v xs) e i))
          side y i (inr (inr j)) = in_right c.0 c.1 y j

          rest : (y : A) → In y xs → In y (c.0 ++ c.1)
          rest y i = side y i (in_either c.0 (x ∷ c.1) y (subst (In y) c.2 (h y (inr i))))

-- whether x is an entry
module _ {A : Type 0} (eq : Discrete A) where
  pub in? : (x : A) (xs : List A) → Dec (In x xs)
  in? x [] = no (λ i. i)
  in? x (y ∷ ys) = go (eq x y) (in? x ys)
    where
      go : Dec (x ≡ y) → Dec (In x ys) → Dec (In x (y ∷ ys))
      go (yes e) d = yes (inl e)
      go (no n) (yes i) = yes (inr i)
      go (no n) (no m) = no (elim [ inl e ↦ n e | inr i ↦ m i ])

-- the numbers below n
abbrev pub upto : ℕ → List ℕ
upto zero = []
upto (suc n) = n ∷ upto n

pub in_upto : (n a : ℕ) → a < n → In a (upto n)
in_upto zero a h = absurd (omega arith)
in_upto (suc n) a h = go (ℕ_discrete a n) (λ k. in_upto n a k)
  where
    go : Dec (a ≡ n) → (a < n → In a (upto n)) → In a (upto (suc n))
    go (yes e) f = inl e
    go (no m) f = inr (f (omega arith))

pub length_upto : (n : ℕ) → length (upto n) ≡ n
length_upto zero = refl
length_upto (suc n) = ap suc (length_upto n)
