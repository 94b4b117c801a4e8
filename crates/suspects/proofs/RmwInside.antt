-- The rows of the pairs with an RMW inside some walk, from the rows of the pairs.
use mathlib.Core.Path.{refl, subst}
use mathlib.Core.Logic.{inl, inr}
use mathlib.Core.Bool.{◌||◌}
use mathlib.Core.List.{List, ◌∷◌, ◌++◌}
use Prim.Native.Nat.{ℕ, ◌<◌}
use native.Mathlib.Omega.{arith}
use lib.Dec.{T}
use Rattle.listing.specs.Node.{Listing}
use Rattle.listing.proofs.Bools.{one}
use Rattle.order.specs.Walks.{kind_at, counts_read, counts_write, counts_rmw, is_access, Access, Succ, Walk, Pair}
use Rattle.order.specs.Need.{RmwInside}
use Rattle.order.proofs.Lists.{in_right, Cut, cut, row_join, row_before, row_after}
use Rattle.rows.specs.Inner.Rows.{Holds, Members}
use Rattle.reach.specs.Inner.Whole.{Then, EndsIn}
use Rattle.suspects.specs.Inner.Suspect.{Exchanged}
use Rattle.meetings.proofs.Counted.{Counted, inside_below}

-- an RMW is an access
rmw_access : (k : ℕ) → T (counts_rmw k) → T (is_access k)
rmw_access k t = one (counts_read k) (counts_write k || counts_rmw k) (inr (one (counts_write k) (counts_rmw k) (inr t)))

module _ (L : Listing) where
  -- two walks that meet at an RMW are one with the RMW inside
  joined : (a c b : ℕ) → Pair L a c → Pair L c b → T (counts_rmw (kind_at L c)) → RmwInside L a b
  joined a c b x y t =
      let xs = x.walk.0 in
      let ys = y.walk.0 in
      (xs ++ (c ∷ ys), c, row_join (Succ L) a xs c ys b x.walk.1 y.walk.1, in_right xs (c ∷ ys) c (inl refl), t)

  -- a walk with an RMW inside is cut there into two pairs
  parted : (a b : ℕ) → Access L a → Access L b → (r : RmwInside L a b) → Pair L a r.1 × Pair L r.1 b
  parted a b ha hb r = (
    record { from = ha; to = hc; walk = (k.0, row_before (Succ L) a k.0 c k.1 b w) },
    record { from = hc; to = hb; walk = (k.1, row_after (Succ L) a k.0 c k.1 b w) },
  )
    where
      c : ℕ
      c = r.1

      k : Cut r.0 r.1
      k = cut r.0 r.1 r.3

      w : Walk L a (k.0 ++ (c ∷ k.1)) b
      w = subst (λ (l : List ℕ). Walk L a l b) k.2 r.2

      hc : Access L c
      hc = rmw_access (kind_at L c) r.4

-- RMW INSIDE: a pair to an RMW, and a pair from it
pub exchanged_hold : {L : Listing} {n : ℕ} (few : Counted L n) {p rmw to i : List ℕ} → Holds p n (Pair L)
    → Members rmw n (λ c. T (counts_rmw (kind_at L c))) → Holds to n (EndsIn rmw p) → Holds i n (Then n to p) → Holds i n (Exchanged L)
exchanged_hold {L} few hp hr ht hi = record {
  sound = λ a b l g.
      let s = hi.sound a b l g in
      let c = s.2.0 in
      let lc : c < 128 = omega (arith, s.2.1) in
      let x = (ht.sound a c lc s.2.2).2 in
      let y = (hp.sound a c lc x.0).2 in
      let z = (hp.sound c b l s.2.3).2 in
      (s.0, s.1, (y.from, z.to, joined L a c b y z (hr.sound c lc x.1).1));
  whole = λ a b la lb g.
      let r = g.2 in
      let c = r.1 in
      let lc = inside_below few a r.0 b r.2 c r.3 in
      let k = parted L a b g.0 g.1 r in
      hi.whole a b la lb (c, lc, ht.whole a c la lc (hp.whole a c la lc k.0, hr.whole c lc r.4), hp.whole c b lc lb k.1);
}
