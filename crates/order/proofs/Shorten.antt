-- Rows of any type without repeats, and closed rows seen from another of their entries.
use mathlib.Core.Path.{sym, subst}
use mathlib.Core.Logic.{inl, inr}
use mathlib.Core.List.{List, [], ◌∷◌, ◌++◌}
use Rattle.order.specs.Rows.{In, Different, Row}
use Rattle.order.proofs.Lists.{in_right, in?, Cut, cut, different_right, row_join, row_before, row_after}

-- a closed row seen from another of its entries
module _ {A : Type 0} (r : A → A → Type 0) where
  pub turn : (s : A) (ss : List A) (t : A) → Row r s ss s → In t (s ∷ ss) → (rest : List A) × Row r t rest t
  turn s ss t h (inl e) = (ss, subst (λ (v : A). Row r v ss v) (sym e) h)
  turn s ss t h (inr i) =
      let c = cut ss t i in
      let k = subst (λ (l : List A). Row r s l s) c.2 h in
      (c.1 ++ (s ∷ c.0), row_join r t c.1 s c.0 t (row_after r s c.0 t c.1 s k) (row_before r s c.0 t c.1 s k))

module _ {A : Type 0} (eq : Discrete A) (r : A → A → Type 0) where
  -- a row from a to z whose entries, a among them, are all different, and are entries of xs
  pub record Simple (a : A) (xs : List A) (z : A) : Type 0 where
    pub inside : List A
    pub row : Row r a inside z
    pub different : Different (a ∷ inside)
    pub among : (x : A) → In x inside → In x xs

  -- A CYCLE IS CUT OUT at its first entry
  pub simple : (a : A) (xs : List A) (z : A) → Row r a xs z → Simple a xs z
  simple a [] z h = record { inside = []; row = h; different = (λ i. i, tt); among = λ x i. i }
  simple a (y ∷ ys) z h = go (simple y ys z h.1)
    where
      up : (s : Simple y ys z) (x : A) → In x (y ∷ s.inside) → In x (y ∷ ys)
      up s x (inl e) = inl e
      up s x (inr i) = inr (s.among x i)

      back : (s : Simple y ys z) → Cut (y ∷ s.inside) a → Simple a (y ∷ ys) z
      back s c = record {
        inside = c.1;
        row = row_after r a c.0 a c.1 z (subst (λ (l : List A). Row r a l z) c.2 (h.0, s.row));
        different = different_right c.0 (a ∷ c.1) (subst Different c.2 s.different);
        among = λ x i. up s x (subst (In x) (sym c.2) (in_right c.0 (a ∷ c.1) x (inr i)));
      }

      pick : (s : Simple y ys z) → Dec (In a (y ∷ s.inside)) → Simple a (y ∷ ys) z
      pick s (yes i) = back s (cut (y ∷ s.inside) a i)
      pick s (no n) = record { inside = y ∷ s.inside; row = (h.0, s.row); different = (n, s.different); among = up s }

      go : Simple y ys z → Simple a (y ∷ ys) z
      go s = pick s (in? eq a (y ∷ s.inside))
