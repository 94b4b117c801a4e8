-- A verdict is checked by computation: the check passes exactly if it is the verdict.
use mathlib.Core.Path.{◌≡◌, subst}
use mathlib.Core.Logic.{◌↔◌, ◌⊎◌, inl, inr}
use mathlib.Core.List.{List, [], ◌∷◌}
use mathlib.Core.Bool.{Bool, true, false, not, ◌&&◌, ◌||◌}
use Prim.Native.Nat.{ℕ, suc, ◌≤◌}
use native.Mathlib.Omega.{arith}
use lib.Dec.{T, eqb, ltb}
use lib.ListN.{length}
use Rattle.listing.specs.Node.{Listing}
use Rattle.order.specs.Rows.{All, In, some, Different, Row}
use Rattle.order.specs.Chains.{Ends, IsPair, Joined, Chain}
use Rattle.order.specs.Verdict.{Fails, Robust, Before, Smaller, Better, Shown, Verdict, robust, opened, Judged}
use Rattle.listing.proofs.Bools.{T?}
use Rattle.order.proofs.Lists.{all_in, in_all, every, upto, in_upto}
use Rattle.order.proofs.Tests.{eqb_checked, ltb_checked, both_checked, one_checked, not_checked, every_checked}
use Rattle.order.proofs.Rounds.{Round}
use Rattle.order.proofs.Least.{shown_best, best_chain}
use Rattle.order.proofs.Search.{rows, rows_complete, Rowed, rows_sound}
use Rattle.order.proofs.Decide.{all_ends, ends_listed, pair?, pair_sound, pair_complete, pairs, pair_listed, listed_pair}
use Rattle.order.proofs.Decide.{same?, same_sound, same_refl, joined?, fails?, fails_sound, fails_complete}

-- ── Which comes first ───────────────────────────────────────────────────────
abbrev pub before? : Ends → Ends → Bool
before? p x = ltb p.0 x.0 || (eqb p.0 x.0 && ltb p.1 x.1)

before_checked : (p x : Ends) → T (before? p x) ↔ Before p x
before_checked p x =
    one_checked (ltb p.0 x.0) _ (ltb_checked p.0 x.0)
    (both_checked (eqb p.0 x.0) _ (eqb_checked p.0 x.0) (ltb_checked p.1 x.1))

same_checked : (p x : Ends) → T (same? p x) ↔ (p ≡ x)
same_checked p x = (same_sound p x, λ e. subst (λ (v : Ends). T (same? p v)) e (same_refl p))

abbrev pub smaller? : List Ends → List Ends → Bool
smaller? [] qs = false
smaller? (p ∷ ps) [] = false
smaller? (p ∷ ps) (q ∷ qs) = before? p q || (same? p q && smaller? ps qs)

smaller_checked : (ps qs : List Ends) → T (smaller? ps qs) ↔ Smaller ps qs
smaller_checked [] qs = (λ h. h, λ h. h)
smaller_checked (p ∷ ps) [] = (λ h. h, λ h. h)
smaller_checked (p ∷ ps) (q ∷ qs) = one_checked (before? p q) _ (before_checked p q) (both_checked (same? p q) _ (same_checked p q) (smaller_checked ps qs))

abbrev pub better? : List Ends → List Ends → Bool
better? ps qs = ltb (length ps) (length qs) || (eqb (length ps) (length qs) && smaller? ps qs)

better_checked : (ps qs : List Ends) → T (better? ps qs) ↔ Better ps qs
better_checked ps qs =
    one_checked (ltb (length ps) (length qs)) _ (ltb_checked (length ps) (length qs))
    (both_checked (eqb (length ps) (length qs)) _ (eqb_checked (length ps) (length qs)) (smaller_checked ps qs))

better_no_longer : (ps qs : List Ends) → Better ps qs → length ps ≤ length qs
better_no_longer ps qs (inl h) = omega arith
better_no_longer ps qs (inr h) = omega (arith, h.0)

-- ── Chains ──────────────────────────────────────────────────────────────────
in_checked : (p : Ends) (ps : List Ends) → T (some (same? p) ps) ↔ In p ps
in_checked p [] = (λ h. h, λ h. h)
in_checked p (x ∷ xs) = one_checked (same? p x) _ (same_checked p x) (in_checked p xs)

abbrev pub different? : List Ends → Bool
different? [] = true
different? (p ∷ ps) = not (some (same? p) ps) && different? ps

different_checked : (ps : List Ends) → T (different? ps) ↔ Different ps
different_checked [] = (λ h. h, λ h. h)
different_checked (p ∷ ps) = both_checked (not (some (same? p) ps)) _ (not_checked (some (same? p) ps) (in_checked p ps)) (different_checked ps)

abbrev pub row? : Listing → Ends → List Ends → Ends → Bool
row? L p [] z = joined? L p z
row? L p (x ∷ xs) z = joined? L p x && row? L x xs z

row_checked : (L : Listing) (p : Ends) (xs : List Ends) (z : Ends) → T (row? L p xs z) ↔ Row (Joined L) p xs z
row_checked L p [] z = (λ h. h, λ h. h)
row_checked L p (x ∷ xs) z = both_checked (joined? L p x) _ (λ h. h, λ h. h) (row_checked L x xs z)

abbrev pub chain_is? : Listing → Ends → List Ends → Bool
chain_is? L p rest = every (pair? L) (p ∷ rest) && (different? (p ∷ rest) && row? L p rest p)

-- the test of a chain passes exactly if it is one
pub chain_is : (L : Listing) (p : Ends) (rest : List Ends) → T (chain_is? L p rest) ↔ Chain L p rest
chain_is L p rest = (
  λ t. let h = parts.0 t in record { pairs = h.0; different = h.1.0; closed = h.1.1 },
  λ c. parts.1 (c.pairs, (c.different, c.closed)),
)
  where
    parts : T (chain_is? L p rest) ↔ (All (IsPair L) (p ∷ rest) × (Different (p ∷ rest) × Row (Joined L) p rest p))
    parts =
        both_checked (every (pair? L) (p ∷ rest)) _ (every_checked (pair? L) (IsPair L) (λ x. (pair_sound L x, pair_complete L x)) (p ∷ rest))
        (both_checked (different? (p ∷ rest)) _ (different_checked (p ∷ rest)) (row_checked L p rest p))

-- ── The chain to show ───────────────────────────────────────────────────────
abbrev pub worse? : List Ends → List Ends → Bool
worse? rest xs = not (better? xs rest)

abbrev Worse : List Ends → List Ends → Type 0
Worse rest xs = Better xs rest → ⊥

worse_checked : (rest xs : List Ends) → T (worse? rest xs) ↔ Worse rest xs
worse_checked rest xs = not_checked (better? xs rest) (better_checked xs rest)

abbrev all_rows : Listing → Ends → ℕ → List (List Ends)
all_rows L p k = rows (pairs L) (joined? L) k p p

abbrev pub best? : Listing → Ends → List Ends → ℕ → Bool
best? L p rest k = every (worse? rest) (all_rows L p k)

abbrev pub shown? : Listing → Ends → List Ends → Bool
shown? L p rest = chain_is? L p rest && every (best? L p rest) (upto (suc (length rest)))

module _ (L : Listing) (p : Ends) (rest : List Ends) where
  -- of the closed rows that are not longer, by the number of their entries, none is better
  abbrev NoneAt : ℕ → Type 0
  NoneAt k = All (Worse rest) (all_rows L p k)

  abbrev NoneBetter : Type 0
  NoneBetter = All NoneAt (upto (suc (length rest)))

  shown_parts : T (shown? L p rest) ↔ (Chain L p rest × NoneBetter)
  shown_parts =
      both_checked (chain_is? L p rest) _ (chain_is L p rest)
      (every_checked (best? L p rest) NoneAt (λ k. every_checked (worse? rest) (Worse rest) (worse_checked rest) (all_rows L p k))
      (upto (suc (length rest))))

  best_at : NoneBetter → (other : List Ends) → Chain L p other → Better other rest → ⊥
  best_at h other c b = all_in (Worse rest) (all_rows L p (length other)) in_turn other listed b
    where
      in_turn : NoneAt (length other)
      in_turn =
          all_in NoneAt (upto (suc (length rest))) h (length other)
          (in_upto (suc (length rest)) (length other) (omega (arith, better_no_longer other rest b)))

      listed : In other (all_rows L p (length other))
      listed =
          rows_complete (pairs L) (joined? L) other p p c.closed
          (in_all (λ y. In y (pairs L)) other (λ y i. pair_listed L y (all_in (IsPair L) other c.pairs.1 y i)))

  -- no round is better than the shown chain
  not_better : Shown L p rest → (xs : List Ends) → Round L p xs → Worse rest xs
  not_better s xs h (inl m) = (shown_best L p rest s).best xs h m
  not_better s xs h (inr m) =
      let b = shown_best L p rest s in
      s.best xs (best_chain L p xs (record { round = h; best = λ other k l. b.best other k (omega (arith, m.0)) })) (inr m)

  worse : Shown L p rest → (k : ℕ) (xs : List Ends) → Rowed (pairs L) (joined? L) k p p xs → Worse rest xs
  worse s k xs h = not_better s xs (record {
    pairs = (s.chain.pairs.0, in_all (IsPair L) xs (λ x i. listed_pair L x (all_in (λ y. In y (pairs L)) xs h.1 x i)));
    closed = h.0;
  })

  -- the test of the chain to show passes exactly if it is the one
  shown_checked : T (shown? L p rest) ↔ Shown L p rest
  shown_checked = (
    λ t. let h = shown_parts.0 t in record { chain = h.0; best = best_at h.1 },
    λ s. shown_parts.1 (
      s.chain,
      in_all NoneAt (upto (suc (length rest))) (λ k i.
          in_all (Worse rest) (all_rows L p k) (λ xs j. worse s k xs (rows_sound (pairs L) (joined? L) k p p xs j))),
    ),
  )

-- ── Verdicts ────────────────────────────────────────────────────────────────
pub failing_listed : (q : ℕ) (L : Listing) (a b : ℕ) → Fails q L a b → In {A = Ends} (a, b) (all_ends L)
failing_listed q L a b f = let p = f.chain.1.pairs.0 in ends_listed L (a, b) p.from p.to

abbrev pub later? : ℕ → Listing → Ends → Ends → Bool
later? q L p x = not (before? x p) || not (fails? q L x)

abbrev pub check : ℕ → Listing → Verdict → Bool
check q L robust = every (λ x. not (fails? q L x)) (all_ends L)
check q L (opened p rest) = fails? q L p && (every (later? q L p) (all_ends L) && shown? L p rest)

module _ (q : ℕ) (L : Listing) where
  fails_checked : (p : Ends) → T (fails? q L p) ↔ Fails q L p.0 p.1
  fails_checked p = (fails_sound q L p, fails_complete q L p)

  abbrev Unfailing : Ends → Type 0
  Unfailing x = Fails q L x.0 x.1 → ⊥

  robust_checked : T (check q L robust) ↔ Robust q L
  robust_checked =
      let e = every_checked (λ x. not (fails? q L x)) Unfailing (λ x. not_checked (fails? q L x) (fails_checked x)) (all_ends L) in
      (λ t a b f. all_in Unfailing (all_ends L) (e.0 t) (a, b) (failing_listed q L a b f) f, λ h. e.1 (in_all Unfailing (all_ends L) (λ x i. h x.0 x.1)))

  module _ (p : Ends) where
    abbrev Later : Ends → Type 0
    Later x = (Before x p → ⊥) ⊎ Unfailing x

    later_checked : T (every (later? q L p) (all_ends L)) ↔ ((a b : ℕ) → Fails q L a b → Before (a, b) p → ⊥)
    later_checked = (
      λ t a b f. first (a, b) f (all_in Later (all_ends L) (each.0 t) (a, b) (failing_listed q L a b f)),
      λ h. each.1 (in_all Later (all_ends L) (λ x i. later h x (T? (fails? q L x)))),
    )
      where
        each : T (every (later? q L p) (all_ends L)) ↔ All Later (all_ends L)
        each = every_checked (later? q L p) Later
            (λ x. one_checked (not (before? x p)) _ (not_checked (before? x p) (before_checked x p)) (not_checked (fails? q L x) (fails_checked x)))
            (all_ends L)

        first : (x : Ends) → Fails q L x.0 x.1 → Later x → Before x p → ⊥
        first x f (inl n) = n
        first x f (inr n) = absurd (n f)

        later : ((a b : ℕ) → Fails q L a b → Before (a, b) p → ⊥) → (x : Ends) → Dec (T (fails? q L x)) → Later x
        later h x (yes t) = inl (h x.0 x.1 ((fails_checked x).0 t))
        later h x (no n) = inr (λ f. n ((fails_checked x).1 f))

-- THE CHECK PASSES EXACTLY IF IT IS THE VERDICT
pub checked : (q : ℕ) (L : Listing) (v : Verdict) → T (check q L v) ↔ Judged q L v
checked q L robust = robust_checked q L
checked q L (opened p rest) =
    let later = both_checked (every (later? q L p) (all_ends L)) _ (later_checked q L p) (shown_checked L p rest) in
    let e = both_checked (fails? q L p) _ (fails_checked q L p) later in
    (λ t. let h = e.0 t in (record { fails = h.0; first = h.1.0 }, h.1.1), λ h. e.1 (h.0.fails, (h.0.first, h.1)))
