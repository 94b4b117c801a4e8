-- The chain to show: a least round is one, and it has at most N + 1 pairs.
use mathlib.Core.Path.{◌≡◌, sym, subst}
use mathlib.Core.Logic.{◌⊎◌, inl, inr}
use mathlib.Core.List.{List, ◌∷◌, map}
use Prim.Native.Nat.{ℕ, suc, ◌≤◌, ◌<◌}
use native.Mathlib.Omega.{arith}
use lib.ListN.{length, length-map}
use Rattle.listing.specs.Node.{Listing}
use Rattle.order.specs.Rows.{All, In, Different}
use Rattle.order.specs.Chains.{Ends, IsPair, Chain}
use Rattle.order.specs.Verdict.{Smaller, Shown}
use Rattle.order.proofs.Lists.{all_in, pigeons, upto, in_upto, length_upto}
use Rattle.order.proofs.Mapped.{mapped_in}
use Rattle.order.proofs.Laws.{access_in}
use Rattle.order.proofs.Rounds.{Round, chain_round, first_node, firsts_chain, spread, shorten}

-- a round than which none is shorter
pub record Best (L : Listing) (p : Ends) (rest : List Ends) : Type 0 where
  pub round : Round L p rest
  pub best : (other : List Ends) → Round L p other → length other < length rest → ⊥

-- no two pairs of a shortest round have the same first node
pub best_firsts : (L : Listing) (p : Ends) (rest : List Ends) → Best L p rest → Different (map first_node (p ∷ rest))
best_firsts L p rest s = let k = spread L p rest s.round in go k.inside k.round k.firsts k.short
  where
    go : (xs : List Ends) → Round L p xs → Different (map first_node (p ∷ xs)) → (length xs < length rest) ⊎ (xs ≡ rest) → Different (map first_node (p ∷ rest))
    go xs h d (inl m) = absurd (s.best xs h m)
    go xs h d (inr e) = subst (λ (l : List Ends). Different (map first_node (p ∷ l))) e d

firsts_in : (L : Listing) (ps : List Ends) → All (IsPair L) ps → (x : ℕ) → In x (map first_node ps) → In x (upto (length L))
firsts_in L ps h x i =
    let m = mapped_in first_node ps x i in
    let k = in_upto (length L) m.0.0 (access_in L m.0.0 (all_in (IsPair L) ps h m.0 m.1).from) in
    subst (λ (v : ℕ). In v (upto (length L))) (sym m.2) k

-- so it has no more pairs than the listing has nodes
pub best_bound : (L : Listing) (p : Ends) (rest : List Ends) → Best L p rest → length (p ∷ rest) ≤ length L
best_bound L p rest b =
    let most = pigeons (map first_node (p ∷ rest)) (upto (length L)) (best_firsts L p rest b) (firsts_in L (p ∷ rest) b.round.pairs) in
    omega (arith, most, length-map (p ∷ rest) first_node, length_upto (length L))

pub best_chain : (L : Listing) (p : Ends) (rest : List Ends) → Best L p rest → Chain L p rest
best_chain L p rest b = firsts_chain L p rest b.round (best_firsts L p rest b)

-- a shortest round, the smallest of its length, is the chain to show
pub best_shown : (L : Listing) (p : Ends) (rest : List Ends) → Best L p rest
    → ((other : List Ends) → Round L p other → length other ≡ length rest → Smaller other rest → ⊥) → Shown L p rest
best_shown L p rest b least = record {
  chain = best_chain L p rest b;
  best = λ other c. elim [
    | inl h ↦ b.best other (chain_round L p other c) h
    | inr h ↦ least other (chain_round L p other c) h.0 h.1
  ];
}

pub shown_best : (L : Listing) (p : Ends) (rest : List Ends) → Shown L p rest → Best L p rest
shown_best L p rest s = record {
  round = chain_round L p rest s.chain;
  best = λ other h m. let c = shorten L p other h in s.best c.0 c.1 (inl (omega (arith, c.2)));
}

-- THE SHOWN CHAIN HAS AT MOST N + 1 PAIRS
pub shown_bound : (L : Listing) (p : Ends) (rest : List Ends) → Shown L p rest → length (p ∷ rest) ≤ suc (length L)
shown_bound L p rest s = omega (arith, best_bound L p rest (shown_best L p rest s))
