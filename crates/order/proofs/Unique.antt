-- Judging has at most one answer.
use mathlib.Core.Path.{◌≡◌, refl, sym, ap₂, subst}
use mathlib.Core.List.{List}
use Prim.Native.Nat.{ℕ}
use Rattle.listing.specs.Node.{Listing}
use Rattle.order.specs.Chains.{Ends}
use Rattle.order.specs.Verdict.{Before, Better, Shown, First, Verdict, robust, opened, Judged}
use Rattle.order.proofs.Orders.{Order, less, same, more, order_ends, order_better}

pub shown_unique : (L : Listing) (p : Ends) (ps qs : List Ends) → Shown L p ps → Shown L p qs → ps ≡ qs
shown_unique L p ps qs s t = go (order_better ps qs)
  where
    go : Order (List Ends) Better ps qs → ps ≡ qs
    go (less h) = absurd (t.best ps s.chain h)
    go (same e) = e
    go (more h) = absurd (s.best qs t.chain h)

pub first_unique : (q : ℕ) (L : Listing) (x y : Ends) → First q L x → First q L y → x ≡ y
first_unique q L x y s t = go (order_ends x y)
  where
    go : Order Ends Before x y → x ≡ y
    go (less h) = absurd (t.first x.0 x.1 s.fails h)
    go (same e) = e
    go (more h) = absurd (s.first y.0 y.1 t.fails h)

-- ONE ANSWER
pub judged_unique : (q : ℕ) (L : Listing) (v w : Verdict) → Judged q L v → Judged q L w → v ≡ w
judged_unique q L robust robust h k = refl
judged_unique q L robust (opened p ps) h k = absurd (h p.0 p.1 k.0.fails)
judged_unique q L (opened p ps) robust h k = absurd (k p.0 p.1 h.0.fails)
judged_unique q L (opened p ps) (opened x xs) h k =
    let e = first_unique q L p x h.0 k.0 in
    ap₂ (λ (x : Ends) (xs : List Ends). opened x xs) e (shown_unique L p ps xs h.1 (subst (λ (v : Ends). Shown L v xs) (sym e) k.1))
