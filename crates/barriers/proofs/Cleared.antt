-- A pair has a walk without barrier exactly if it has one for the fence that looks at it.
use mathlib.Core.Path.{◌≡◌, sym, subst}
use mathlib.Core.Logic.{◌↔◌}
use mathlib.Core.List.{List}
use mathlib.Core.Bool.{false}
use Prim.Native.Nat.{ℕ, ◌<◌}
use lib.Dec.{T, eqb}
use Rattle.listing.specs.Kinds.{FENCE, LOAD_FENCE, STORE_FENCE}
use Rattle.listing.specs.Node.{Listing}
use Rattle.listing.proofs.Bools.{both, both→}
use Rattle.order.specs.Rows.{All}
use Rattle.order.specs.Walks.{kind_at, counts_write}
use Rattle.order.specs.Need.{question, bars, Unbarred}
use Rattle.order.specs.Inner.Ends.{by_ends, bars_with, fence_for}
use Rattle.order.proofs.Lists.{all_in, in_all}
use Rattle.order.proofs.Ends.{with_more, with_absent, with_old, fence_cases, load_looks, store_looks, bars_one}
use Rattle.meetings.proofs.Counted.{Counted, inside_below}
use Rattle.barriers.specs.Inner.Clear.{ClearOf, ClearIfLooked, Clear}

module _ (q : ℕ) {L : Listing} {n : ℕ} (few : Counted L n) where
  -- what the fence g bars f bars too: then a walk past f is one past g
  past : (f g : ℕ) → ((c : ℕ) → c < n → T (bars_with (question q) g (kind_at L c)) → T (bars_with (question q) f (kind_at L c)))
      → (a b : ℕ) → ClearOf q f L a b → ClearOf q g L a b
  past f g h a b (xs, w, u) = (
    xs,
    w,
    in_all (λ c. T (bars_with (question q) g (kind_at L c)) → ⊥) xs (λ c i t.
        all_in (λ c. T (bars_with (question q) f (kind_at L c)) → ⊥) xs u c i (h c (inside_below few a xs b w c i) t)),
  )

  -- a walk past any fence is past full fences
  pub past_full : (f a b : ℕ) → ClearOf q f L a b → ClearOf q FENCE L a b
  past_full f = past f FENCE (λ c l. with_more (question q) f (kind_at L c))

  -- where there is no such fence a walk past full fences is past it
  pub past_absent : (f : ℕ) → ((c : ℕ) → c < n → T (eqb (kind_at L c) f) → ⊥) → (a b : ℕ) → ClearOf q FENCE L a b → ClearOf q f L a b
  past_absent f none = past FENCE f (λ c l. with_absent (question q) f (kind_at L c) (none c l))

  -- and where barriers do not look at the ends
  past_old : (f : ℕ) → by_ends (question q) ≡ false → (a b : ℕ) → ClearOf q FENCE L a b → ClearOf q f L a b
  past_old f e = past FENCE f (λ c l t. with_old (question q) f (kind_at L c) e t)

  module _ (a b : ℕ) where
    -- the fence that looks at the pair
    abbrev its : ℕ
    its = fence_for (kind_at L a) (kind_at L b)

    same : (xs : List ℕ) → All (λ c. T (bars_with (question q) its (kind_at L c)) → ⊥) xs ↔ Unbarred q L a b xs
    same xs = (
      λ u. in_all (λ c. T (bars (question q) (kind_at L a) (kind_at L b) (kind_at L c)) → ⊥) xs (λ c i t.
          all_in (λ c. T (bars_with (question q) its (kind_at L c)) → ⊥) xs u c i
          (subst T (bars_one (question q) (kind_at L a) (kind_at L b) (kind_at L c)) t)),
      λ u. in_all (λ c. T (bars_with (question q) its (kind_at L c)) → ⊥) xs (λ c i t.
          all_in (λ c. T (bars (question q) (kind_at L a) (kind_at L b) (kind_at L c)) → ⊥) xs u c i
          (subst T (sym (bars_one (question q) (kind_at L a) (kind_at L b) (kind_at L c))) t)),
    )

    clear_its : ClearOf q its L a b ↔ Clear q L a b
    clear_its = (λ (xs, w, u). (xs, w, (same xs).0 u), λ (xs, w, u). (xs, w, (same xs).1 u))

    -- PAST FULL FENCES, LOAD FENCES AND STORE FENCES, EACH WHERE IT LOOKS AT THE PAIR
    pub clear_past : ClearOf q FENCE L a b → ClearIfLooked q LOAD_FENCE L a b → ClearIfLooked q STORE_FENCE L a b → Clear q L a b
    clear_past f l s =
        clear_its.0 (fence_cases (λ g. ClearOf q g L a b) (kind_at L a) (kind_at L b) f (λ t. l t tt)
        (λ t. let w = both→ (counts_write (kind_at L a)) (counts_write (kind_at L b)) t in s w.0 w.1))

    pub clear_old : by_ends (question q) ≡ false → ClearOf q FENCE L a b → Clear q L a b
    clear_old e f = clear_its.0 (past_old its e a b f)

    pub clear_full : Clear q L a b → ClearOf q FENCE L a b
    clear_full h = past_full its a b (clear_its.1 h)

    pub clear_load : Clear q L a b → ClearIfLooked q LOAD_FENCE L a b
    clear_load h t u = subst (λ (g : ℕ). ClearOf q g L a b) (load_looks (kind_at L a) (kind_at L b) t) (clear_its.1 h)

    pub clear_store : Clear q L a b → ClearIfLooked q STORE_FENCE L a b
    clear_store h t u =
        subst (λ (g : ℕ). ClearOf q g L a b)
        (store_looks (kind_at L a) (kind_at L b) (both (counts_write (kind_at L a)) (counts_write (kind_at L b)) t u)) (clear_its.1 h)
