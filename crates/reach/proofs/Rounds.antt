-- One round of Warshall's, row by row.
use mathlib.Core.Path.{sym, ◌∙◌}
use mathlib.Core.Logic.{◌⊎◌, inl, inr, ⊎_elim}
use mathlib.Core.List.{List}
use Prim.Native.Nat.{ℕ, ◌+◌, ◌<◌}
use native.Mathlib.Omega.{arith}
use borrow.Author.Count.{below_more}
use Rattle.rows.specs.Inner.Rows.{Has}
use Rattle.rows.specs.Inner.Touched.{Poured}
use Rattle.reach.specs.Inner.Whole.{Passed}
use Rattle.rows.proofs.Places.{row_or_rest}
use Rattle.rows.proofs.OneRow.{poured_gives, poured_keeps, poured_brings}

pub passed_none : (w : List ℕ) (k : ℕ) → Passed w w 0 k
passed_none w k = record { gives = λ x y hy h. inl h; keeps = λ x y hy h. h; done = λ x y hx hy p q. absurd (omega arith) }

module _ (w v : List ℕ) (k a : ℕ) (hk : k < 128) (u : Passed w v a k) where
  -- k's own row, and k in a row, are never changed
  row_k : (y : ℕ) → y < 128 → Has v k y → Has w k y
  row_k y hy h = ⊎_elim (λ p. p) (λ p. p.1) (u.gives k y hy h)

  to_k : (x : ℕ) → Has v x k → Has w x k
  to_k x h = ⊎_elim (λ p. p) (λ p. p.0) (u.gives x k hk h)

  pub passed_skip : (Has v a k → ⊥) → Passed w v (a + 1) k
  passed_skip ne =
      record {
        gives = u.gives;
        keeps = u.keeps;
        done = λ x y hx hy. below_more (λ x. Has w x k → Has w k y → Has v x y) a (λ x h. u.done x y h hy) (λ p. absurd (ne (u.keeps a k hk p))) x hx;
      }

  pub passed_or : (z : List ℕ) → Has v a k → Poured v v z a k → Passed w z (a + 1) k
  passed_or z t o =
      record {
        gives = λ x y hy. row_or_rest (λ x. Has z x y → Has w x y ⊎ (Has w x k × Has w k y)) a
            (λ h. ⊎_elim (u.gives a y hy) (λ p. inr (to_k a t, row_k y hy p)) (poured_gives v v z a k o y hy h))
            (λ x e h. u.gives x y hy (sym (o.rest x y hy e) ∙ h)) x;
        keeps = λ x y hy h. up x y hy (u.keeps x y hy h);
        done = λ x y hx hy. below_more (λ x. Has w x k → Has w k y → Has z x y) a
            (λ x h p q. up x y hy (u.done x y h hy p q)) (λ p q. poured_brings v v z a k o y hy (u.keeps k y hy q)) x hx;
      }
    where
      up : (x y : ℕ) → y < 128 → Has v x y → Has z x y
      up = poured_keeps v v z a k o
