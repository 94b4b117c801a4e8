-- Rounds: closed rows of pairs, repeats allowed. Every chain is one, and every round has a chain in it.
use mathlib.Core.Path.{◌≡◌, ap, subst}
use mathlib.Core.Logic.{◌⊎◌, inl, inr}
use mathlib.Core.List.{List, ◌∷◌, map}
use Prim.Native.Nat.{ℕ, ◌≤◌, ◌<◌}
use native.Mathlib.Omega.{arith}
use native.Mathlib.Decide.{ℕ_discrete}
use lib.ListN.{length}
use Rattle.listing.specs.Node.{Listing}
use Rattle.order.specs.Rows.{All, In, Different, Row}
use Rattle.order.specs.Chains.{Ends, IsPair, Joined, Chain}
use Rattle.order.proofs.Lists.{all_in, in_all}
use Rattle.order.proofs.Mapped.{mapped_different}
use Rattle.order.proofs.Keys.{Keyed, keyed}

-- `p ∷ rest` is a closed row of pairs
pub record Round (L : Listing) (p : Ends) (rest : List Ends) : Type 0 where
  pub pairs : All (IsPair L) (p ∷ rest)
  pub closed : Row (Joined L) p rest p

pub chain_round : (L : Listing) (p : Ends) (rest : List Ends) → Chain L p rest → Round L p rest
chain_round L p rest c = record { pairs = c.pairs; closed = c.closed }

-- every pair of xs is one of ys
abbrev pub Among : List Ends → List Ends → Type 0
Among xs ys = (x : Ends) → In x xs → In x ys

abbrev pub first_node : Ends → ℕ
first_node p = p.0

-- pairs that start at different nodes are different, so a round of such pairs is a chain
pub firsts_chain : (L : Listing) (p : Ends) (rest : List Ends) → Round L p rest → Different (map first_node (p ∷ rest)) → Chain L p rest
firsts_chain L p rest h d = record { pairs = h.pairs; different = mapped_different first_node (p ∷ rest) d; closed = h.closed }

-- a round has one in it whose pairs start at different nodes: it is shorter, or the round itself
pub record Spread (L : Listing) (p : Ends) (rest : List Ends) : Type 0 where
  pub inside : List Ends
  pub round : Round L p inside
  pub firsts : Different (map first_node (p ∷ inside))
  pub among : Among inside rest
  pub short : (length inside < length rest) ⊎ (inside ≡ rest)

-- joined looks at the first node of the second pair only
pub spread : (L : Listing) (p : Ends) (rest : List Ends) → Round L p rest → Spread L p rest
spread L p rest h = record {
  inside = k.inside;
  round = record {
    pairs = (h.pairs.0, in_all (IsPair L) k.inside (λ x i. all_in (IsPair L) rest h.pairs.1 x (k.among x i)));
    closed = k.row;
  };
  firsts = k.different;
  among = k.among;
  short = k.short;
}
  where
    k : Keyed ℕ_discrete first_node (Joined L) (λ a x y j e. subst (λ (v : ℕ). Joined L a (v, x.1)) e j) p rest p
    k = keyed ℕ_discrete first_node (Joined L) (λ a x y j e. subst (λ (v : ℕ). Joined L a (v, x.1)) e j) p rest p h.closed

-- SHORTENING: A ROUND HAS A CHAIN IN IT THAT IS NO LONGER
pub shorten : (L : Listing) (p : Ends) (rest : List Ends) → Round L p rest → (c : List Ends) × Chain L p c × (length c ≤ length rest) × Among c rest
shorten L p rest h =
    let k = spread L p rest h in
    (k.inside, firsts_chain L p k.inside k.round k.firsts, no_longer k.inside k.short, k.among)
  where
    no_longer : (xs : List Ends) → (length xs < length rest) ⊎ (xs ≡ rest) → length xs ≤ length rest
    no_longer xs (inl m) = omega arith
    no_longer xs (inr e) = omega (arith, ap length e)
