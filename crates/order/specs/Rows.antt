-- Words for lists: every entry, some entry, all different, and a row of entries that follow one another by a relation.
use Rattle.std.specs.Prelude.{◌≡◌, ◌⊎◌, List, [], ◌∷◌, Bool, false, ◌||◌}

module _ {A : Type 0} where
  -- p holds of every entry
  abbrev pub All : (A → Type 0) → List A → Type 0
  All p [] = Unit {0}
  All p (x ∷ xs) = p x × All p xs

  -- x is an entry
  abbrev pub In : A → List A → Type 0
  In x [] = ⊥
  In x (y ∷ ys) = (x ≡ y) ⊎ In x ys

  -- no two entries are equal
  abbrev pub Different : List A → Type 0
  Different [] = Unit {0}
  Different (x ∷ xs) = (In x xs → ⊥) × Different xs

  -- some entry passes the test
  abbrev pub some : (A → Bool) → List A → Bool
  some t [] = false
  some t (x ∷ xs) = t x || some t xs

  -- there is an entry
  abbrev pub Some : List A → Type 0
  Some [] = ⊥
  Some (x ∷ xs) = Unit {0}

  -- a leads to z by r, with exactly the entries of the list in between, in their order
  abbrev pub Row : (A → A → Type 0) → A → List A → A → Type 0
  Row r a [] z = r a z
  Row r a (x ∷ xs) z = r a x × Row r x xs z
