-- A row whose relation looks at a key of its second entry only, made to have different keys.
use mathlib.Core.Path.{◌≡◌, refl, sym, ap, subst}
use mathlib.Core.Logic.{◌⊎◌, inl, inr}
use mathlib.Core.List.{List, [], ◌∷◌, ◌++◌, map}
use Prim.Native.Nat.{◌<◌}
use native.Mathlib.Omega.{arith}
use lib.ListN.{length, length-append}
use Rattle.order.specs.Rows.{In, Different, Row}
use Rattle.order.proofs.Lists.{in_right, cut, in?, row_after}
use Rattle.order.proofs.Mapped.{mapped_in}

module _ {A K : Type 0} (eq_k : Discrete K) (key : A → K) where
  abbrev KeyCut : List A → K → Type 0
  KeyCut xs k = (us : List A) × (w : A) × (vs : List A) × (xs ≡ us ++ (w ∷ vs)) × (k ≡ key w)

  key_cut : (xs : List A) (k : K) → In k (map key xs) → KeyCut xs k
  key_cut xs k i =
      let m = mapped_in key xs k i in
      let c = cut xs m.0 m.1 in
      (c.0, m.0, c.1, c.2, m.2)

  -- the entries of xs have different keys, and none has k
  abbrev Distinct : K → List A → Type 0
  Distinct k xs = Different (k ∷ map key xs)

  distinct_right : (k : K) (us vs : List A) → Distinct k (us ++ vs) → Distinct k vs
  distinct_right k [] vs d = d
  distinct_right k (u ∷ us) vs d = distinct_right k us vs (λ i. d.0 (inr i), d.1.1)

  module _ (r : A → A → Type 0) (by_key : (a x y : A) → r a x → key x ≡ key y → r a y) where
    -- a row whose entries have different keys, the one that it ends at among them
    pub record Keyed (a : A) (xs : List A) (z : A) : Type 0 where
      pub inside : List A
      pub row : Row r a inside z
      pub different : Different (map key (z ∷ inside))
      pub among : (x : A) → In x inside → In x xs
      pub short : (length inside < length xs) ⊎ (inside ≡ xs)

    -- A ROW HAS A ROW WITH DIFFERENT KEYS IN IT, SHORTER OR THE SAME
    pub keyed : (a : A) (xs : List A) (z : A) → Row r a xs z → Keyed a xs z
    keyed a [] z h = record { inside = []; row = h; different = (λ i. i, tt); among = λ x i. i; short = inr refl }
    keyed a (y ∷ ys) z h = go (eq_k (key y) (key z)) (keyed y ys z h.1)
      where
        -- y has a key that comes again: what lies between is left out
        back : (s : Keyed y ys z) → KeyCut s.inside (key y) → Keyed a (y ∷ ys) z
        back s c = record {
          inside = c.1 ∷ c.2;
          row = (by_key a y c.1 h.0 c.4, row_after r y c.0 c.1 c.2 z (subst (λ (l : List A). Row r y l z) c.3 s.row));
          different = distinct_right (key z) c.0 (c.1 ∷ c.2) (subst (Distinct (key z)) c.3 s.different);
          among = λ x i. inr (s.among x (subst (In x) (sym c.3) (in_right c.0 (c.1 ∷ c.2) x i)));
          short = inl (less s.short);
        }
          where
            less : (length s.inside < length ys) ⊎ (s.inside ≡ ys) → length (c.1 ∷ c.2) < length (y ∷ ys)
            less (inl m) = omega (arith, m, simp length-append at (ap length c.3))
            less (inr e) = omega (arith, ap length e, simp length-append at (ap length c.3))

        pick : (key y ≡ key z → ⊥) → (s : Keyed y ys z) → Dec (In (key y) (map key s.inside)) → Keyed a (y ∷ ys) z
        pick m s (yes i) = back s (key_cut s.inside (key y) i)
        pick m s (no n) = record {
          inside = y ∷ s.inside;
          row = (h.0, s.row);
          different = (elim [ inl e ↦ m (sym e) | inr i ↦ s.different.0 i ], (n, s.different.1));
          among = λ x. elim [ inl e ↦ inl e | inr i ↦ inr (s.among x i) ];
          short = keep s.short;
        }
          where
            keep : (length s.inside < length ys) ⊎ (s.inside ≡ ys) → (length (y ∷ s.inside) < length (y ∷ ys)) ⊎ ((y ∷ s.inside) ≡ (y ∷ ys))
            keep (inl m) = inl (omega arith)
            keep (inr e) = inr (ap (λ (v : List A). y ∷ v) e)

        go : Dec (key y ≡ key z) → Keyed y ys z → Keyed a (y ∷ ys) z
        go (yes e) s = record {
          inside = [];
          row = by_key a y z h.0 e;
          different = (λ i. i, tt);
          among = λ x i. absurd i;
          short = inl (omega arith);
        }
        go (no m) s = pick m s (in? eq_k (key y) (map key s.inside))
