-- Rows thinned one after the other: of each row only what satisfies P is kept.
use mathlib.Core.Path.{◌≡◌, refl, sym, ◌∙◌}
use mathlib.Core.Logic.{◌⊎◌, inl, inr, ⊎_elim}
use mathlib.Core.List.{List}
use Prim.Native.Nat.{ℕ, ◌+◌, ◌≤◌, ◌<◌}
use native.Mathlib.Omega.{arith}
use borrow.Author.Count.{below_more}
use Rattle.rows.specs.Inner.Rows.{Has, Holds, Low}
use Rattle.rows.specs.Inner.Touched.{Poured, Sifted, Emptied}
use Rattle.rows.specs.Inner.Growing.{RowGrown, RowsDone}
use Rattle.rows.specs.Inner.Thinned.{Thinned}
use Rattle.reach.specs.Inner.Whole.{StartsIn, EndsIn, Among}
use Rattle.rows.proofs.Places.{row_or_rest}
use Rattle.rows.proofs.OneRow.{poured_gives, poured_brings, sifted_gives, sifted_keeps}
use Rattle.rows.proofs.Holds.{holds_map}

-- row k alone is thinned
pub record Thins (P : ℕ → ℕ → Type 0) (v z : List ℕ) (k : ℕ) : Type 0 where
  pub row : (y : ℕ) → y < 128 → Has z k y → P k y
  pub gives : (x y : ℕ) → y < 128 → Has z x y → Has v x y
  pub keeps : (x y : ℕ) → y < 128 → Has v x y → P x y → Has z x y

module _ {P : ℕ → ℕ → Type 0} where
  pub thinned_none : (w : List ℕ) → Thinned P w w 0
  thinned_none w = record { gives = λ x y hy h. (h, λ l. absurd (omega arith)); keeps = λ x y hy h p. h }

  pub thinned_more : (w v z : List ℕ) (k : ℕ) → Thinned P w v k → Thins P v z k → Thinned P w z (k + 1)
  thinned_more w v z k g t =
      record {
        gives = λ x y hy h. (let o = g.gives x y hy (t.gives x y hy h) in (o.0, λ l. new x y hy l h));
        keeps = λ x y hy h p. t.keeps x y hy (g.keeps x y hy h p) p;
      }
    where
      new : (x y : ℕ) → y < 128 → x < k + 1 → Has z x y → P x y
      new x y hy = below_more (λ x. Has z x y → P x y) k (λ x l h. (g.gives x y hy (t.gives x y hy h)).1 l) (t.row y hy) x

  pub thinned_all : (w v : List ℕ) (n : ℕ) → n ≤ 128 → Low n w → Thinned P w v n → Holds v n (λ a b. Has w a b × P a b)
  thinned_all w v n hn l g =
      record {
        sound = λ a b hb h. (
            let o = g.gives a b hb h in
            let e = l a b hb o.0 in
            (e.0, e.1, (o.0, o.1 e.0)));
        whole = λ a b ha hb p. g.keeps a b (omega arith) p.0 p.1;
      }

-- by a set's row
pub sifts : (s v z : List ℕ) (k : ℕ) → Sifted s v z k 0 → Thins (λ x y. Has s 0 y) v z k
sifts s v z k o =
    record {
      row = λ y hy h. (sifted_gives s v z k 0 o y hy h).1;
      gives = λ x y hy. row_or_rest (λ x. Has z x y → Has v x y) k (λ h. (sifted_gives s v z k 0 o y hy h).0) (λ x e h. sym (o.rest x y hy e) ∙ h) x;
      keeps = λ x y hy. row_or_rest (λ x. Has v x y → Has s 0 y → Has z x y) k (sifted_keeps s v z k 0 o y hy) (λ x e h p. o.rest x y hy e ∙ h) x;
    }

-- a row whose node is in the set stays
pub stays : (s v : List ℕ) (k : ℕ) → Has s 0 k → Thins (λ x y. Has s 0 x) v v k
stays s v k i = record { row = λ y hy h. i; gives = λ x y hy h. h; keeps = λ x y hy h p. h }

-- a row whose node is not in the set is emptied
pub drops : (s v z : List ℕ) (k : ℕ) → (Has s 0 k → ⊥) → Emptied v z k → Thins (λ x y. Has s 0 x) v z k
drops s v z k ne o =
    record {
      row = λ y hy h. absurd (o.row y hy h);
      gives = λ x y hy. row_or_rest (λ x. Has z x y → Has v x y) k (λ h. absurd (o.row y hy h)) (λ x e h. sym (o.rest x y hy e) ∙ h) x;
      keeps = λ x y hy. row_or_rest (λ x. Has v x y → Has s 0 x → Has z x y) k (λ h p. absurd (ne p)) (λ x e h p. o.rest x y hy e ∙ h) x;
    }

-- a set's columns and then its rows are what is among the set
pub among : (s w v z : List ℕ) (n : ℕ) → n ≤ 128 → Holds v n (EndsIn s w) → Holds z n (StartsIn s v) → Holds z n (Among s w)
among s w v z n hn t f =
    holds_map (λ a b ha hb p. (let o = (t.sound a b (omega arith) p.0).2 in (o.0, p.1, o.1)))
    (λ a b ha hb p. (t.whole a b ha hb (p.0, p.2), p.1)) f

-- a row poured over and then sifted by a set's row
pub row_ends : (s w v u z : List ℕ) (a n : ℕ) → n ≤ 128 → Low n w → RowsDone (EndsIn s w) v a n → Poured w v u a a → Sifted s u z a 0
    → RowGrown (EndsIn s w) v z a n
row_ends s w v u z a n hn low d p o =
    record {
      gives = λ x y hy. row_or_rest (λ x. Has z x y → Has v x y ⊎ ((x ≡ a) × (y < n) × EndsIn s w a y)) a (here y hy)
          (λ x e h. inl (sym (p.rest x y hy e) ∙ sym (o.rest x y hy e) ∙ h)) x;
      keeps = λ x y hy h. (
          let l = (d.sound x y hy h).0 in
          let e : x ≡ a → ⊥ = λ e. omega arith in
          o.rest x y hy e ∙ p.rest x y hy e ∙ h);
      done = λ y hy h. sifted_keeps s u z a 0 o y (omega arith) (poured_brings w v u a a p y (omega arith) h.0) h.1;
    }
  where
    here : (y : ℕ) → y < 128 → Has z a y → Has v a y ⊎ ((a ≡ a) × (y < n) × EndsIn s w a y)
    here y hy h =
        let q = sifted_gives s u z a 0 o y hy h in
        ⊎_elim inl (λ r. inr (refl, (low a y hy r).1, (r, q.1))) (poured_gives w v u a a p y hy q.0)
