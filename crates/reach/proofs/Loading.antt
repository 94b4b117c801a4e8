-- The links of a listing, a row from a node's two successors.
use mathlib.Core.Path.{◌≡◌}
use mathlib.Core.Logic.{inl, inr, ⊎_elim}
use mathlib.Core.List.{List}
use Prim.Native.Nat.{ℕ, ◌≤◌, ◌<◌}
use native.Mathlib.Omega.{arith}
use lib.ListN.{length}
use Rattle.listing.specs.Node.{Listing, node}
use Rattle.order.specs.Walks.{Next, Succ}
use Rattle.rows.specs.Inner.Rows.{Has}
use Rattle.rows.specs.Inner.Growing.{RowGrown}
use Rattle.reach.specs.Inner.Links.{Linked}

pub row_linked : (L : Listing) (w v z : List ℕ) (n k : ℕ) → n ≤ 128 → length L ≡ n → k < n
    → Linked w v n k (node L k).first → Linked v z n k (node L k).second → RowGrown (Succ L) w z k n
row_linked L w v z n k hn size hk p q =
    record {
      gives = λ x y hy h.
          ⊎_elim (λ h'. ⊎_elim inl (λ e. inr (new x y e.0 e.1 (inl e.2))) (p.gives x y hy h'))
          (λ e. inr (new x y e.0 e.1 (inr e.2))) (q.gives x y hy h);
      keeps = λ x y hy h. q.keeps x y hy (p.keeps x y hy h);
      done = λ y hy s. done y hy s.2;
    }
  where
    new : (x y : ℕ) → x ≡ k → y < n → Next (node L k) y → (x ≡ k) × (y < n) × Succ L k y
    new x y e hy s = (e, hy, (omega arith, omega arith, s))

    done : (y : ℕ) → y < n → Next (node L k) y → Has z k y
    done y hy (inl e) = q.keeps k y (omega arith) (p.done y hy e)
    done y hy (inr e) = q.done y hy e
