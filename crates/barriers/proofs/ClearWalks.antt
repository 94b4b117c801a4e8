-- The rows of the walks with nothing inside that bars, from the rows of the walks through passable nodes.
use mathlib.Core.Bool.{Bool, not}
use mathlib.Core.List.{List}
use Prim.Native.Nat.{ℕ}
use native.Mathlib.Omega.{arith}
use lib.Dec.{T, T_not, not_T}
use Rattle.listing.specs.Node.{Listing}
use Rattle.order.specs.Rows.{All}
use Rattle.order.specs.Walks.{kind_at, Walk}
use Rattle.order.specs.Need.{question}
use Rattle.order.specs.Inner.Ends.{bars_with}
use Rattle.order.proofs.Lists.{all_in, in_all}
use Rattle.rows.specs.Inner.Rows.{Has, Holds, Members}
use Rattle.reach.specs.Inner.Links.{Walked}
use Rattle.barriers.specs.Inner.Clear.{ClearOf}
use Rattle.meetings.proofs.Counted.{Counted, inside_below}

module _ {L : Listing} {n : ℕ} (few : Counted L n) (q fence : ℕ) where
  -- c bars the pairs that the fence looks at
  abbrev barred : ℕ → Bool
  barred c = bars_with (question q) fence (kind_at L c)

  -- WALKS WITH NOTHING INSIDE THAT BARS
  pub clear_hold : {free f : List ℕ} → Members free n (λ c. T (not (barred c))) → Holds f n (Walked L free)
      → Holds f n (ClearOf q fence L)
  clear_hold {free} {f} hs hf = record {
    sound = λ a b l h. let s = hf.sound a b l h in let w = s.2 in (s.0, s.1, (w.0, w.1, clear a w.0 b w.1 w.2));
    whole = λ a b la lb g. hf.whole a b la lb (g.0, g.1, passable a g.0 b g.1 g.2);
  }
    where
      clear : (a : ℕ) (inside : List ℕ) (b : ℕ) → Walk L a inside b → All (λ c. Has free 0 c) inside → All (λ c. T (barred c) → ⊥) inside
      clear a inside b w h = in_all (λ c. T (barred c) → ⊥) inside (λ c i.
          let lc = inside_below few a inside b w c i in
          T_not (barred c) (hs.sound c (omega arith) (all_in (λ c. Has free 0 c) inside h c i)).1)

      passable : (a : ℕ) (inside : List ℕ) (b : ℕ) → Walk L a inside b → All (λ c. T (barred c) → ⊥) inside → All (λ c. Has free 0 c) inside
      passable a inside b w h = in_all (λ c. Has free 0 c) inside (λ c i.
          hs.whole c (inside_below few a inside b w c i) (not_T (barred c) (all_in (λ c. T (barred c) → ⊥) inside h c i)))
