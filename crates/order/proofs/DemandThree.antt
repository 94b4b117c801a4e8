-- The third demand: a listing is robust exactly if each step of each closed chain of steps is in order or free of need.
use mathlib.Core.Path.{refl}
use mathlib.Core.Logic.{◌↔◌, ◌⊎◌, inl, inr}
use mathlib.Core.List.{List, [], ◌∷◌, ◌++◌, map}
use Prim.Native.Nat.{ℕ}
use Rattle.listing.specs.Node.{Listing}
use Rattle.order.specs.Rows.{All, In, Some, Row}
use Rattle.order.specs.Walks.{kind_at, loc_at}
use Rattle.order.specs.Chains.{surely, SurelyMeet, Ends, IsPair, Joined, Chain}
use Rattle.order.specs.Need.{question, bars, Barrier, Unbarred}
use Rattle.order.specs.Verdict.{Robust}
use Rattle.order.specs.Steps.{Step, ends, Hop, Ring, InOrder, Free, Ordered}
use Rattle.listing.proofs.Bools.{T?}
use Rattle.order.proofs.Lists.{all_in, in_all, row_join}
use Rattle.order.proofs.Shorten.{turn}
use Rattle.order.proofs.Rounds.{shorten}

-- a row of steps is a row of their ends
ends_row : (L : Listing) (s : Step L) (ss : List (Step L)) (z : Step L) → Row (Hop L) s ss z → Row (Joined L) (ends s) (map ends ss) (ends z)
ends_row L s [] z h = h
ends_row L s (t ∷ ss) z h = (h.0, ends_row L t ss z h.1)

step_pair : (L : Listing) (s : Step L) → IsPair L (ends s)
step_pair L s = record { from = s.from_access; to = s.to_access; walk = (s.inside, s.walk) }

steps_pairs : (L : Listing) (ss : List (Step L)) → All (IsPair L) (map ends ss)
steps_pairs L [] = tt
steps_pairs L (s ∷ ss) = (step_pair L s, steps_pairs L ss)

-- a barrier is among the nodes inside
abbrev Barred : ℕ → Listing → ℕ → ℕ → List ℕ → Type 0
Barred q L a b xs = (c : ℕ) × In c xs × Barrier q L a b c

-- or none is
barred? : (q : ℕ) (L : Listing) (a b : ℕ) (xs : List ℕ) → Barred q L a b xs ⊎ Unbarred q L a b xs
barred? q L a b [] = inr tt
barred? q L a b (x ∷ xs) = go (T? (bars (question q) (kind_at L a) (kind_at L b) (kind_at L x))) (barred? q L a b xs)
  where
    go : Dec (Barrier q L a b x) → Barred q L a b xs ⊎ Unbarred q L a b xs → Barred q L a b (x ∷ xs) ⊎ Unbarred q L a b (x ∷ xs)
    go (yes t) r = inl (x, inl refl, t)
    go (no n) (inl r) = inl (r.0, inr r.1, r.2)
    go (no n) (inr r) = inr (n, r)

-- the pair of a step of a closed chain of steps lies on a chain
pub on_chain : (L : Listing) (s : Step L) (ss : List (Step L)) → Ring L s ss → (t : Step L) → In t (s ∷ ss) → (rest : List Ends) × Chain L (ends t) rest
on_chain L s ss g t i =
    let u = turn (Hop L) s ss t g.closed i in
    let c = shorten L (ends t) (map ends u.0) (record {
      pairs = (step_pair L t, steps_pairs L u.0);
      closed = ends_row L t u.0 t u.1;
    }) in
    (c.0, c.1)

pub robust_ordered : (q : ℕ) (L : Listing) → Robust q L → Ordered q L
robust_ordered q L h s ss g = in_all (λ t. InOrder q L t ⊎ Free q L t) (s ∷ ss) each
  where
    each : (t : Step L) → In t (s ∷ ss) → InOrder q L t ⊎ Free q L t
    each t i = go (T? (surely (loc_at L t.from) (loc_at L t.to))) (barred? q L t.from t.to t.inside)
      where
        go : Dec (SurelyMeet L t.from t.to) → Barred q L t.from t.to t.inside ⊎ Unbarred q L t.from t.to t.inside
            → InOrder q L t ⊎ Free q L t
        go (yes m) b = inl (inl m)
        go (no m) (inl b) = inl (inr b)
        go (no m) (inr b) = inr (λ n. h t.from t.to (record {
          chain = on_chain L s ss g t i;
          needs = n;
          apart = m;
          unbarred = (t.inside, t.walk, b);
        }))

-- each pair of a chain is walked by some step
pair_step : (L : Listing) (p : Ends) → IsPair L p → Step L
pair_step L p h = record { from = p.0; to = p.1; inside = h.walk.0; from_access = h.from; to_access = h.to; walk = h.walk.1 }

pair_steps : (L : Listing) (ps : List Ends) → All (IsPair L) ps → List (Step L)
pair_steps L [] h = []
pair_steps L (p ∷ ps) h = pair_step L p h.0 ∷ pair_steps L ps h.1

pub ordered_robust : (q : ℕ) (L : Listing) → Ordered q L → Robust q L
unfolding pair_step pair_steps
ordered_robust q L h a b f = go (h s (ss ++ (s ∷ ss)) ring).0
  where
    c : Chain L (a, b) f.chain.0
    c = f.chain.1

    s : Step L
    s = record { from = a; to = b; inside = f.unbarred.0; from_access = c.pairs.0.from; to_access = c.pairs.0.to; walk = f.unbarred.1 }

    ss : List (Step L)
    ss = pair_steps L f.chain.0 c.pairs.1

    closed : (t : Step L) (ps : List Ends) (k : All (IsPair L) ps) → Row (Joined L) (ends t) ps (a, b) → Row (Hop L) t (pair_steps L ps k) s
    closed t [] k r = r
    closed t (p ∷ ps) k r = (r.0, closed (pair_step L p k.0) ps k.1 r.1)

    two : (ts : List (Step L)) → Some (ts ++ (s ∷ ss))
    two [] = tt
    two (t ∷ ts) = tt

    -- the chain, gone round twice: a chain of one pair is a closed chain of two steps too
    ring : Ring L s (ss ++ (s ∷ ss))
    ring =
        let once = closed s f.chain.0 c.pairs.1 c.closed in
        record { two = two ss; closed = row_join (Hop L) s ss s ss s once once }

    go : InOrder q L s ⊎ Free q L s → ⊥
    go (inl (inl m)) = f.apart m
    go (inl (inr x)) = all_in (λ c. Barrier q L a b c → ⊥) f.unbarred.0 f.unbarred.2 x.0 x.1 x.2
    go (inr n) = n f.needs

-- THE THIRD DEMAND
pub demand3 : (q : ℕ) (L : Listing) → Robust q L ↔ Ordered q L
demand3 q L = (robust_ordered q L, ordered_robust q L)
