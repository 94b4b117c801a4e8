-- Lists mapped by a function: what holds of the entries of one holds of the entries of the other.
use mathlib.Core.Path.{◌≡◌, refl, sym, ap, ap₂, subst}
use mathlib.Core.Logic.{◌↔◌, inl, inr}
use mathlib.Core.List.{List, [], ◌∷◌, map}
use Rattle.order.specs.Rows.{All, In, Different, Row}
use Rattle.order.proofs.Lists.{all_in}

module _ {A B : Type 0} (g : A → B) where
  pub all_mapped : (p : A → Type 0) (q : B → Type 0) → ((x : A) → p x → q (g x)) → (xs : List A) → All p xs → All q (map g xs)
  all_mapped p q f [] h = tt
  all_mapped p q f (x ∷ xs) h = (f x h.0, all_mapped p q f xs h.1)

  -- entries that are each mapped from some entry are together mapped from a list
  pub all_from : (p : A → Type 0) (q : B → Type 0) → ((y : B) → q y → (x : A) × (g x ≡ y) × p x)
      → (ys : List B) → All q ys → (xs : List A) × (map g xs ≡ ys) × All p xs
  all_from p q f [] h = ([], refl, tt)
  all_from p q f (y ∷ ys) h =
      let x = f y h.0 in
      let i = all_from p q f ys h.1 in
      (x.0 ∷ i.0, ap₂ ◌∷◌ x.1 i.1, (x.2, i.2))

  pub in_mapped : (xs : List A) (x : A) → In x xs → In (g x) (map g xs)
  in_mapped [] x i = i
  in_mapped (y ∷ ys) x (inl e) = inl (ap g e)
  in_mapped (y ∷ ys) x (inr i) = inr (in_mapped ys x i)

  pub mapped_in : (xs : List A) (y : B) → In y (map g xs) → (x : A) × In x xs × (y ≡ g x)
  mapped_in [] y i = absurd i
  mapped_in (x ∷ xs) y (inl e) = (x, inl refl, e)
  mapped_in (x ∷ xs) y (inr i) = let m = mapped_in xs y i in (m.0, inr m.1, m.2)

  -- entries with different images are different
  pub mapped_different : (xs : List A) → Different (map g xs) → Different xs
  mapped_different [] d = tt
  mapped_different (x ∷ xs) d = (λ i. d.0 (in_mapped xs x i), mapped_different xs d.1)

  -- and conversely, where the function keeps them apart
  pub different_mapped : (p : A → Type 0) → ((x y : A) → p x → p y → g x ≡ g y → x ≡ y) → (xs : List A) → All p xs → Different xs → Different (map g xs)
  different_mapped p apart [] h d = tt
  different_mapped p apart (x ∷ xs) h d = (λ i. d.0 (back (mapped_in xs (g x) i)), different_mapped p apart xs h.1 d.1)
    where
      back : (z : A) × In z xs × (g x ≡ g z) → In x xs
      back m = subst (λ (v : A). In v xs) (sym (apart x m.0 h.0 (all_in p xs h.1 m.0 m.1) m.2)) m.1

  -- a row of entries that are related as their images are
  pub row_mapped : (p : A → Type 0) (r : A → A → Type 0) (s : B → B → Type 0) → ((x y : A) → p x → p y → r x y ↔ s (g x) (g y))
      → (a : A) (xs : List A) (z : A) → p a → All p xs → p z → Row r a xs z ↔ Row s (g a) (map g xs) (g z)
  row_mapped p r s f a [] z ha h hz = f a z ha hz
  row_mapped p r s f a (x ∷ xs) z ha h hz =
      let e = f a x ha h.0 in
      let i = row_mapped p r s f x xs z h.0 h.1 hz in
      (λ k. (e.0 k.0, i.0 k.1), λ k. (e.1 k.0, i.1 k.1))
