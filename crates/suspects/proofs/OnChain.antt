-- When a pair lies on a chain, in words that rows of bits can answer: by who leads back to its first node.
use mathlib.Core.Path.{refl, sym, subst}
use mathlib.Core.Logic.{◌↔◌, inl, inr}
use mathlib.Core.List.{List, [], ◌∷◌, ◌++◌}
use Prim.Native.Nat.{ℕ}
use Rattle.listing.specs.Node.{Listing}
use Rattle.order.specs.Rows.{All, Row}
use Rattle.order.specs.Chains.{MayMeet, Ends, IsPair, Joined, Chain}
use Rattle.order.proofs.Lists.{row_join, all_append}
use Rattle.order.proofs.Meeting.{meets_sym}
use Rattle.order.proofs.Rounds.{shorten}
use Rattle.suspects.specs.Inner.Back.{Turns, Led, Leads, Back}
use Rattle.suspects.specs.Inner.Suspect.{OnChain}

module _ (L : Listing) where
  -- pairs that lead from c to p: the first of them, and the others
  abbrev Way : Ends → ℕ → Type 0
  Way p c = (d : ℕ) × (vs : List Ends) × All (IsPair L) ((c, d) ∷ vs) × Row (Joined L) (c, d) vs p

  -- turning back step by step is such a way
  way : (p : Ends) (inside : List ℕ) (c : ℕ) → Row (Turns L) p.0 inside c → Way p c
  way p [] c t = (t.0, [], (t.2, tt), meets_sym L p.0 t.0 t.1)
  way p (x ∷ xs) c t =
      let y : Ends = (x, t.0.0) in
      let w = way y xs c t.1 in (
        w.0,
        w.1 ++ (y ∷ []),
        (w.2.0, all_append (IsPair L) w.1 (y ∷ []) w.2.1 (t.0.2, tt)),
        row_join (Joined L) (c, w.0) w.1 y [] p w.3 (meets_sym L p.0 t.0.0 t.0.1),
      )

  -- and the other way round
  led : (p x : Ends) (vs : List Ends) → All (IsPair L) (x ∷ vs) → Row (Joined L) x vs p → Led L p.0 x.0
  led p x [] g r = ([], (x.1, meets_sym L x.1 p.0 r, g.0))
  led p x (y ∷ vs) g r =
      let i = led p y vs g.1 r.1 in
      (i.0 ++ (y.0 ∷ []), row_join (Turns L) p.0 i.0 y.0 [] x.0 i.1 (x.1, meets_sym L x.1 y.0 r.0, g.0))

  chain_back : (p : Ends) (rest : List Ends) → Chain L p rest → Back L p.0 p.1
  chain_back p [] k = (p.0, k.closed, inl refl)
  chain_back p (x ∷ vs) k = (x.0, k.closed.0, inr (led p x vs k.pairs.1 k.closed.1))

  back_chain : (a b : ℕ) → IsPair L (a, b) → Back L a b → OnChain L a b
  back_chain a b h k = go k.2
    where
      go : Leads L a k.0 → OnChain L a b
      go (inl e) = ([], record { pairs = (h, tt); different = (λ i. i, tt); closed = subst (MayMeet L b) (sym e) k.1 })
      go (inr l) =
          let w = way (a, b) l.0 k.0 l.1 in
          let c = shorten L (a, b) ((k.0, w.0) ∷ w.1) (record { pairs = (h, w.2); closed = (k.1, w.3) }) in
          (c.0, c.1)

  -- A PAIR LIES ON A CHAIN exactly if its second access leads back to its first by hops and steps, no step at all included
  pub on_chain : (a b : ℕ) → IsPair L (a, b) → OnChain L a b ↔ Back L a b
  on_chain a b h = (λ c. chain_back (a, b) c.0 c.1, back_chain a b h)
