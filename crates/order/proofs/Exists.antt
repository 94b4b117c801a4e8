-- Every listing has an answer to every question.
use mathlib.Core.Path.{◌≡◌, refl, sym, subst}
use mathlib.Core.List.{List, [], ◌∷◌, ◌++◌}
use Prim.Native.Nat.{ℕ, zero, suc, ◌<◌}
use native.Mathlib.Omega.{arith}
use native.Mathlib.Decide.{dec_lt}
use lib.ListN.{length}
use Rattle.listing.specs.Node.{Listing}
use Rattle.order.specs.Rows.{In}
use Rattle.order.specs.Chains.{Ends, IsPair, Chain}
use Rattle.order.specs.Verdict.{Fails, Before, Better, Shown, Verdict, robust, opened, Judged}
use Rattle.order.proofs.Lists.{all_in, in_all, in_left, in_right, keep, in_keep, keep_in, pigeons}
use Rattle.order.proofs.Orders.{order_ends, order_better, before_trans, before_irrefl, better_trans, better_irrefl, min_of, min_in}
use Rattle.order.proofs.Search.{rows, rows_complete}
use Rattle.order.proofs.Decide.{all_ends, pairs, pair_listed, joined?, fails?, fails_sound, fails_complete}
use Rattle.order.proofs.Check.{chain_is?, chain_is, failing_listed}

abbrev rows_of : Listing → Ends → ℕ → List (List Ends)
rows_of L p k = rows (pairs L) (joined? L) k p p

abbrev rows_below : Listing → Ends → ℕ → List (List Ends)
rows_below L p zero = []
rows_below L p (suc k) = rows_of L p k ++ rows_below L p k

in_rows : (L : Listing) (p : Ends) (n : ℕ) (xs : List Ends) (k : ℕ) → In xs (rows_of L p k) → k < n → In xs (rows_below L p n)
in_rows L p zero xs k i h = absurd (omega arith)
in_rows L p (suc n) xs k i h = go (dec_lt k n) (λ l. in_rows L p n xs k i l)
  where
    go : Dec (k < n) → (k < n → In xs (rows_below L p n)) → In xs (rows_below L p (suc n))
    go (yes l) f = in_right (rows_of L p n) (rows_below L p n) xs (f l)
    go (no m) f = let e : k ≡ n = omega arith in in_left (rows_of L p n) (rows_below L p n) xs (subst (λ (v : ℕ). In xs (rows_of L p v)) e i)

-- all chains through p
abbrev chains : Listing → Ends → List (List Ends)
chains L p = keep (chain_is? L p) (rows_below L p (suc (length (pairs L))))

chain_listed : (L : Listing) (p : Ends) (rest : List Ends) → Chain L p rest → In rest (chains L p)
chain_listed L p rest c =
    in_keep (chain_is? L p) (rows_below L p (suc (length (pairs L)))) rest
    (in_rows L p (suc (length (pairs L))) rest (length rest) found (omega (arith, pigeons rest (pairs L) c.different.1 listed)))
    ((chain_is L p rest).1 c)
  where
    listed : (y : Ends) → In y rest → In y (pairs L)
    listed y i = pair_listed L y (all_in (IsPair L) rest c.pairs.1 y i)

    found : In rest (rows_of L p (length rest))
    found = rows_complete (pairs L) (joined? L) rest p p c.closed (in_all (λ y. In y (pairs L)) rest listed)

pub shown_exists : (L : Listing) (p : Ends) (rest : List Ends) → Chain L p rest → (best : List Ends) × Shown L p best
shown_exists L p rest c =
    let m = min_in Better order_better better_trans better_irrefl (chains L p) rest (chain_listed L p rest c) in (
      m.at,
      record {
        chain = (chain_is L p m.at).0 (keep_in (chain_is? L p) (rows_below L p (suc (length (pairs L)))) m.at m.inside).1;
        best = λ other d. m.least other (chain_listed L p other d);
      },
    )

abbrev failing : ℕ → Listing → List Ends
failing q L = keep (fails? q L) (all_ends L)

fails_in : (q : ℕ) (L : Listing) (a b : ℕ) → Fails q L a b → In {A = Ends} (a, b) (failing q L)
fails_in q L a b f = in_keep (fails? q L) (all_ends L) (a, b) (failing_listed q L a b f) (fails_complete q L (a, b) f)

in_fails : (q : ℕ) (L : Listing) (p : Ends) → In p (failing q L) → Fails q L p.0 p.1
in_fails q L p i = fails_sound q L p (keep_in (fails? q L) (all_ends L) p i).1

-- EVERY LISTING HAS AN ANSWER
pub judged_exists : (q : ℕ) (L : Listing) → (v : Verdict) × Judged q L v
judged_exists q L = go (failing q L) refl
  where
    go : (fs : List Ends) → failing q L ≡ fs → (v : Verdict) × Judged q L v
    go [] e = (robust, λ a b f. subst (In {A = Ends} (a, b)) e (fails_in q L a b f))
    go (x ∷ xs) e =
        let m = min_of Before order_ends before_trans before_irrefl x xs in
        let f = in_fails q L m.at (subst (In m.at) (sym e) m.inside) in
        let s = shown_exists L m.at f.chain.0 f.chain.1 in
        (opened m.at s.0, (record { fails = f; first = λ a b k. m.least (a, b) (subst (In {A = Ends} (a, b)) e (fails_in q L a b k)) }, s.1))
