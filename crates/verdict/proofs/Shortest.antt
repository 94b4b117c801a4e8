-- The best course by rows is the chain to show: hops and pairs as numbers, turned into the rules' lists of pairs and back.
use mathlib.Core.Path.{◌≡◌, refl, sym, ap, subst}
use mathlib.Core.Logic.{◌⊎◌, inl, inr}
use mathlib.Core.List.{List, [], ◌∷◌}
use Prim.Native.Nat.{ℕ, ◌*◌, ◌<◌}
use native.Mathlib.Omega.{arith}
use lib.ListN.{length}
use Rattle.listing.specs.Node.{Listing}
use Rattle.order.specs.Rows.{All, Row}
use Rattle.order.specs.Walks.{Access}
use Rattle.order.specs.Chains.{MayMeet, Ends, IsPair, Joined}
use Rattle.order.specs.Verdict.{Before, Smaller, Shown}
use Rattle.order.proofs.Rounds.{Round}
use Rattle.order.proofs.Least.{best_shown}
use Rattle.chains.specs.Inner.Courses as hops
use Rattle.verdict.specs.Judging.{chain_bytes}

pub chain_length : (ps : List Ends) → length (chain_bytes ps) ≡ 2 * length ps
chain_length [] = refl
chain_length (p ∷ ps) = omega (arith, chain_length ps)

-- ── Number by number is pair by pair ────────────────────────────────────────
heads : {a b : ℕ} {l m : List ℕ} → hops.Lex (a ∷ l) (b ∷ m) → (a < b) ⊎ ((a ≡ b) × hops.Lex l m)
heads (hops.less h) = inl h
heads (hops.same x) = inr (refl, x)

not_smaller : (ps qs : List Ends) → hops.Lex (chain_bytes ps) (chain_bytes qs) → Smaller qs ps → ⊥
not_smaller [] [] x s = s
not_smaller [] (q ∷ qs) x s = s
not_smaller (p ∷ ps) [] x s = s
not_smaller (p ∷ ps) (q ∷ qs) x s = first (λ y t. not_smaller ps qs y t) (heads x) s
  where
    second : (hops.Lex (chain_bytes ps) (chain_bytes qs) → Smaller qs ps → ⊥) → p.0 ≡ q.0
        → (p.1 < q.1) ⊎ ((p.1 ≡ q.1) × hops.Lex (chain_bytes ps) (chain_bytes qs)) → Before q p ⊎ ((q ≡ p) × Smaller qs ps) → ⊥
    second f e (inl l) (inl (inl m)) = omega arith
    second f e (inl l) (inl (inr m)) = omega (arith, m.1)
    second f e (inl l) (inr m) = omega (arith, ap (λ (v : Ends). v.1) m.0)
    second f e (inr x) (inl (inl m)) = omega arith
    second f e (inr x) (inl (inr m)) = omega (arith, m.1, x.0)
    second f e (inr x) (inr m) = f x.1 m.1

    first : (hops.Lex (chain_bytes ps) (chain_bytes qs) → Smaller qs ps → ⊥)
        → (p.0 < q.0) ⊎ ((p.0 ≡ q.0) × hops.Lex (p.1 ∷ chain_bytes ps) (q.1 ∷ chain_bytes qs)) → Before q p ⊎ ((q ≡ p) × Smaller qs ps) → ⊥
    first f (inl l) (inl (inl m)) = omega arith
    first f (inl l) (inl (inr m)) = omega (arith, m.0)
    first f (inl l) (inr m) = omega (arith, ap (λ (v : Ends). v.0) m.0)
    first f (inr x) s = second f x.0 (heads x.1) s

-- ── Lists of numbers and lists of pairs ─────────────────────────────────────
-- what the rows keep around the pair p: who hops to whom, the pairs, and the ends that meet p's first node
pub record Kept (L : Listing) (p : Ends) (M W : ℕ → ℕ → Type 0) (T : ℕ → Type 0) : Type 0 where
  pub hop : (x c : ℕ) → M x c → MayMeet L x c
  pub hops : (x c : ℕ) → Access L x → Access L c → MayMeet L x c → M x c
  pub pair : (c y : ℕ) → W c y → IsPair L (c, y)
  pub pairs : (c y : ℕ) → IsPair L (c, y) → W c y
  pub home : (y : ℕ) → T y → MayMeet L y p.0
  pub homes : (y : ℕ) → Access L y → MayMeet L y p.0 → T y

module _ {L : Listing} {p : Ends} {M W : ℕ → ℕ → Type 0} {T : ℕ → Type 0} (k : Kept L p M W T) where
  -- the pairs of a chain of numbers
  record Read (x : ℕ) (l : List ℕ) : Type 0 where
    pub rest : List Ends
    pub same : l ≡ chain_bytes rest
    pub pairs : All (IsPair L) rest
    pub row : (z : Ends) → z.1 ≡ x → Row (Joined L) z rest p

  read : {x : ℕ} {l : List ℕ} → hops.Course M W T x l → Read x l
  read {x} (hops.end t) = record { rest = []; same = refl; pairs = tt; row = λ z e. subst (λ (v : ℕ). MayMeet L v p.0) (sym e) (k.home x t) }
  read {x} (hops.go {c = c} {y = y} m w h) =
      let r = read h in
      record {
        rest = (c, y) ∷ r.rest;
        same = ap (λ (v : List ℕ). c ∷ y ∷ v) r.same;
        pairs = (k.pair c y w, r.pairs);
        row = λ z e. (subst (λ (v : ℕ). MayMeet L v c) (sym e) (k.hop x c m), r.row (c, y) refl);
      }

  write : (z : Ends) (rest : List Ends) → Access L z.1 → All (IsPair L) rest → Row (Joined L) z rest p → hops.Course M W T z.1 (chain_bytes rest)
  write z [] hz g r = hops.end (k.homes z.1 hz r)
  write z (x ∷ xs) hz g r =
      hops.go (k.hops z.1 x.0 hz g.0.from r.0) (k.pairs x.0 x.1 g.0) (write x xs g.0.to g.1 r.1)

  -- a round has a course by rows
  pub of_round : (rest : List Ends) → Round L p rest → hops.Course M W T p.1 (chain_bytes rest)
  of_round rest r = write p rest r.pairs.0.to r.pairs.1 r.closed

  -- THE BEST COURSE BY ROWS IS THE CHAIN TO SHOW
  pub best_by_rows : (l : List ℕ) → IsPair L p → hops.BestCourse M W T p.1 l → (rest : List Ends) × (l ≡ chain_bytes rest) × Shown L p rest
  best_by_rows l h b = (rest, e, best_shown L p rest record { round = round; best = shortest } smallest)
    where
      r : Read p.1 l
      r = read b.course

      rest : List Ends
      rest = r.rest

      e : l ≡ chain_bytes rest
      e = r.same

      round : Round L p rest
      round = record { pairs = (h, r.pairs); closed = r.row p refl }

      shortest : (other : List Ends) → Round L p other → length other < length rest → ⊥
      shortest other o m =
          let no_longer = b.short (chain_bytes other) (of_round other o) in
          omega (arith, no_longer, ap length e, chain_length rest, chain_length other)

      smallest : (other : List Ends) → Round L p other → length other ≡ length rest → Smaller other rest → ⊥
      smallest other o m s =
          let k : length (chain_bytes other) ≡ length l = omega (arith, ap length e, chain_length rest, chain_length other) in
          let no-smaller = b.least (chain_bytes other) (of_round other o) k in
          not_smaller rest other (subst (λ (v : List ℕ). hops.Lex v (chain_bytes other)) e no-smaller) s
