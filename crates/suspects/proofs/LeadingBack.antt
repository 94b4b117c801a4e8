-- The rows of who leads back, and of the pairs on a chain, from the rows of the pairs and of who meets whom.
use mathlib.Core.Path.{subst}
use mathlib.Core.Logic.{inl, inr, ⊎_elim}
use mathlib.Core.List.{List, [], ◌∷◌}
use Prim.Native.Nat.{ℕ, ◌<◌}
use native.Mathlib.Omega.{arith}
use Rattle.listing.specs.Node.{Listing}
use Rattle.order.specs.Rows.{All, Row}
use Rattle.order.specs.Walks.{Access, Pair}
use Rattle.rows.specs.Inner.Rows.{Has, Holds, Members, Link}
use Rattle.reach.specs.Inner.Whole.{Through, Then, Converse, Stays}
use Rattle.suspects.specs.Inner.Back.{Turns, Led, Leads, RowBack}
use Rattle.suspects.specs.Inner.Suspect.{OnChain}
use Rattle.meetings.specs.Inner.Meeting.{Meeting}
use Rattle.meetings.proofs.Counted.{Counted, access_below}
use Rattle.suspects.proofs.OnChain.{on_chain}

module _ {L : Listing} {n : ℕ} (few : Counted L n) {p m : List ℕ} (hp : Holds p n (Pair L)) (hm : Holds m n (Meeting L)) where
  -- t keeps the pairs turned round, w one step of turning back, h all its steps
  module _ {every t w h : List ℕ} (all : Members every n (λ c. Unit {0}))
      (ht : Holds t n (Converse p)) (hw : Holds w n (Then n m t)) (hh : Holds h n (Through n w every)) where
    turn_sound : (a c : ℕ) → c < 128 → Has w a c → Access L a × Turns L a c
    turn_sound a c l g =
        let s = (hw.sound a c l g).2 in
        let d = s.0 in
        let x = (hm.sound a d (omega (arith, s.1)) s.2).2 in
        let y = ht.sound d c l s.3 in
        (x.0, (d, x.2, (hp.sound c d (omega (arith, y.0)) y.2).2))

    turn_whole : (a c : ℕ) → Access L a → Turns L a c → Link n w a c
    turn_whole a c h t =
        let d = t.0 in
        let la = access_below few a h in
        let lc = access_below few c t.2.from in
        let ld = access_below few d t.2.to in
        let back = ht.whole d c ld lc (hp.whole c d lc ld t.2) in
        (la, lc, hw.whole a c la lc (d, ld, hm.whole a d la ld (h, t.2.to, t.1), back))

    row_sound : (a : ℕ) (inside : List ℕ) (c : ℕ) → Row (Link n w) a inside c → Access L a × Row (Turns L) a inside c
    row_sound a [] c r = turn_sound a c (omega (arith, r.1)) r.2
    row_sound a (x ∷ xs) c r =
        let g = turn_sound a x (omega (arith, r.0.1)) r.0.2 in
        (g.0, (g.1, (row_sound x xs c r.1).1))

    row_whole : (a : ℕ) (inside : List ℕ) (c : ℕ) → Access L a → Row (Turns L) a inside c → Row (Link n w) a inside c
    row_whole a [] c h t = turn_whole a c h t
    row_whole a (x ∷ xs) c h t = (turn_whole a x h t.0, row_whole x xs c t.0.2.from t.1)

    row_low : (a : ℕ) (inside : List ℕ) (c : ℕ) → Row (Link n w) a inside c → All (λ x. Has every 0 x) inside
    row_low a [] c r = tt
    row_low a (x ∷ xs) c r = (all.whole x r.0.1 tt, row_low x xs c r.1)

    -- leading back is turning back, step by step
    pub led_hold : Holds h n (λ a c. Access L a × Led L a c)
    led_hold = record {
      sound = λ a c l g.
          let s = hh.sound a c l g in
          let r = row_sound a s.2.0 c s.2.1 in
          (s.0, s.1, (r.0, (s.2.0, r.1)));
      whole = λ a c la lc g.
          let r = row_whole a g.1.0 c g.0 g.1.1 in
          hh.whole a c la lc (g.1.0, r, row_low a g.1.0 c r);
    }

  lead_access : (a c : ℕ) → Access L a → Leads L a c → Access L c
  lead_access a c t (inl e) = subst (Access L) e t
  lead_access a c t (inr r) = last a r.0 r.1
    where
      last : (a : ℕ) (inside : List ℕ) → Row (Turns L) a inside c → Access L c
      last a [] t = t.2.from
      last a (x ∷ xs) t = last x xs t.1

  -- PAIRS ON A CHAIN: those whose end meets a node that leads back to their first, no step at all included
  pub chain_hold : {h h' w : List ℕ} → Holds h n (λ a c. Access L a × Led L a c) → Holds h' n (Stays h) → Holds w n (RowBack p m h')
      → Holds w n (OnChain L)
  chain_hold {h} {h'} {w} hh hs hw = record {
    sound = λ a b l g.
        let s = hw.sound a b l g in
        let pair = (hp.sound a b l s.2.0).2 in
        let k = s.2.1 in
        let c = k.0 in
        let leads : Leads L a c = ⊎_elim inl (λ x. inr (hh.sound a c k.1 x).2.1) (hs.sound a c k.1 k.3).2 in
        (s.0, s.1, (on_chain L a b pair).1 (c, (hm.sound b c k.1 k.2).2.2, leads));
    whole = λ a b la lb o.
        let pair = o.1.pairs.0 in
        let k = (on_chain L a b pair).0 o in
        let c = k.0 in
        let from = lead_access a c pair.from k.2 in
        let lc = access_below few c from in
        let leads = ⊎_elim inl (λ x. inr (hh.whole a c la lc (pair.from, x))) k.2 in
        hw.whole a b la lb
        (hp.whole a b la lb pair, (c, omega (arith, lc), hm.whole b c lb lc (pair.to, from, k.1), hs.whole a c la lc leads));
  }
