-- Failing pairs of a renamed listing are the old ones, renamed, that fail on an open walk.
use mathlib.Core.Path.{◌≡◌, sym, subst}
use mathlib.Core.Logic.{◌↔◌}
use mathlib.Core.List.{List, map}
use Prim.Native.Nat.{ℕ}
use Rattle.listing.specs.Node.{Listing}
use Rattle.order.specs.Chains.{Ends, IsPair}
use Rattle.order.specs.Verdict.{Fails, Robust}
use Rattle.order.proofs.Renaming.{Renamed, rename, surely_same, needs_same, unbarred_same, pair_back, chain_there, chain_back}

-- the pair fails on a walk that is open besides
pub record FailsOpen (q : ℕ) (Open : ℕ → List ℕ → Type 0) (L : Listing) (a b : ℕ) : Type 0 where
  pub fails : Fails q L a b
  pub walk_open : Open a fails.unbarred.0

module _ {f : ℕ → ℕ} {Open : ℕ → List ℕ → Type 0} {L M : Listing} (r : Renamed f Open L M) (q : ℕ) where
  fails_from : (a b : ℕ) → IsPair L (a, b) → Fails q M (f a) (f b) → FailsOpen q Open L a b
  fails_from a b p h =
      let s = p.from in
      let t = p.to in
      let c = chain_back r (a, b) p h.chain.0 h.chain.1 in
      let w = r.back a b s t h.unbarred.0 h.unbarred.1 in
      let o = (unbarred_same r a b s t q w.0 h.unbarred.0 w.2).1 h.unbarred.2 in
      record {
        fails = record {
          chain = (c.0, c.2);
          needs = (needs_same r a b s t q).1 h.needs;
          apart = λ m. h.apart ((surely_same r a b s t).0 m);
          unbarred = (w.0, w.1, o.0);
        };
        walk_open = o.1;
      }

  -- FAILING PAIRS CORRESPOND
  pub fails_there : (a b : ℕ) → FailsOpen q Open L a b → Fails q M (f a) (f b)
  fails_there a b o =
      let h = o.fails in
      let c = h.chain.1 in
      let s = c.pairs.0.from in
      let t = c.pairs.0.to in
      let w = r.there a b s t h.unbarred.0 h.unbarred.1 in
      record {
        chain = (map (rename f) h.chain.0, chain_there r (a, b) h.chain.0 c);
        needs = (needs_same r a b s t q).0 h.needs;
        apart = λ m. h.apart ((surely_same r a b s t).1 m);
        unbarred = (w.0, w.1, (unbarred_same r a b s t q h.unbarred.0 w.0 w.2).0 (h.unbarred.2, o.walk_open));
      }

  pub fails_back : (x y : ℕ) → Fails q M x y → (p : Ends) × (rename f p ≡ (x, y)) × FailsOpen q Open L p.0 p.1
  fails_back x y h =
      let p = pair_back r (x, y) h.chain.1.pairs.0 in
      (p.0, p.1, fails_from p.0.0 p.0.1 p.2 (subst (λ (e : Ends). Fails q M e.0 e.1) (sym p.1) h))

-- with every number kept, they are the same
pub fails_kept : {Open : ℕ → List ℕ → Type 0} {L M : Listing} → Renamed (λ a. a) Open L M → (q a b : ℕ) → FailsOpen q Open L a b ↔ Fails q M a b
fails_kept {Open} {L} r q a b = (
  fails_there r q a b,
  λ h. let p = fails_back r q a b h in subst (λ (e : Ends). FailsOpen q Open L e.0 e.1) p.1 p.2,
)

-- WHERE EVERY WALK IS OPEN, THE VERDICT IS THE SAME
pub robust_same : {f : ℕ → ℕ} {Open : ℕ → List ℕ → Type 0} {L M : Listing} → Renamed f Open L M → ((a : ℕ) (xs : List ℕ) → Open a xs)
    → (q : ℕ) → Robust q L ↔ Robust q M
robust_same {f} r all q = (
  λ h x y m. let p = fails_back r q x y m in h p.0.0 p.0.1 p.2.fails,
  λ h a b m. h (f a) (f b) (fails_there r q a b record { fails = m; walk_open = all a m.unbarred.0 }),
)
