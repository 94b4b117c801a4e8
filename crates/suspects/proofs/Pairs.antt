-- The rows of the pairs, from the rows of who reaches whom.
use mathlib.Core.List.{List}
use Prim.Native.Nat.{ℕ}
use native.Mathlib.Omega.{arith}
use Rattle.listing.specs.Node.{Listing}
use Rattle.order.specs.Walks.{Access, Pair}
use Rattle.rows.specs.Inner.Rows.{Holds, Members}
use Rattle.reach.specs.Inner.Whole.{Among}
use Rattle.meetings.proofs.Counted.{Counted}
use Rattle.suspects.specs.Inner.Suspect.{Reaches}

-- PAIRS: walks between accesses
pub pairs_hold : {L : Listing} {n : ℕ} (few : Counted L n) {r acc p : List ℕ} → Holds r n (Reaches L) → Members acc n (Access L)
    → Holds p n (Among acc r) → Holds p n (Pair L)
pairs_hold few hr ha hp = record {
  sound = λ a b l h.
      let g = hp.sound a b l h in
      let from = (ha.sound a (omega (arith, g.0, few.small)) g.2.1).1 in
      (g.0, g.1, record { from = from; to = (ha.sound b l g.2.2).1; walk = (hr.sound a b l g.2.0).2 });
  whole = λ a b la lb h. hp.whole a b la lb (hr.whole a b la lb h.walk, ha.whole a la h.from, ha.whole b lb h.to);
}
