-- Rows thinned by who walks past a fence.
use mathlib.Core.Path.{◌≡◌, refl, sym, ◌∙◌}
use mathlib.Core.Logic.{inl, inr, ⊎_elim}
use mathlib.Core.List.{List}
use mathlib.Core.Bool.{false, not}
use Prim.Native.Nat.{ℕ, ◌<◌}
use native.Mathlib.Decide.{dec_lt}
use native.Mathlib.Omega.{arith}
use lib.Dec.{T, eqb, eqb→eq, T_not, not_T}
use Rattle.listing.specs.Kinds.{FENCE, LOAD_FENCE, STORE_FENCE}
use Rattle.listing.specs.Node.{Listing}
use Rattle.listing.proofs.Bools.{T?, eq→eqb}
use Rattle.order.specs.Walks.{kind_at}
use Rattle.order.specs.Need.{question}
use Rattle.order.specs.Inner.Ends.{by_ends, looks_first, looks_second}
use Rattle.rows.specs.Inner.Least.{Least}
use Rattle.rows.specs.Inner.Rows.{Tells, Has, Low, Holds, Members}
use Rattle.rows.specs.Inner.Touched.{Copied, Poured, Sifted, Common}
use Rattle.rows.specs.Inner.Thinned.{Thinned, RowThinned}
use Rattle.rows.proofs.Places.{row_or_rest}
use Rattle.rows.proofs.Tells.{told_map, tells}
use Rattle.rows.proofs.OneRow.{poured_gives, poured_brings, poured_keeps, sifted_gives, sifted_keeps}
use Rattle.reach.proofs.Thinned.{Thins}
use Rattle.meetings.proofs.Counted.{Counted}
use Rattle.barriers.specs.Inner.Clear.{ClearOf, ClearIfLooked, Clear, KeptIn, KeptOf, Nobody}
use Rattle.barriers.proofs.Cleared.{past_absent, clear_past, clear_old, clear_full, clear_load, clear_store}

-- a row sifted by another row and a set
pub row_kept : (others f s t c z : List ℕ) (a : ℕ) → Copied f a s → Poured others s t 0 0 → Sifted t c z a 0 → RowThinned (KeptIn others f a) c z a
row_kept others f s t c z a k p o = record {
  gives = λ y hy h.
      let g = sifted_gives t c z a 0 o y hy h in
      (g.0, ⊎_elim (λ r. inl (sym (k.same y hy) ∙ r)) inr (poured_gives others s t 0 0 p y hy g.1));
  keeps = λ y hy h r.
      sifted_keeps t c z a 0 o y hy h
      (⊎_elim (λ i. poured_keeps others s t 0 0 p 0 y hy (k.same y hy ∙ i)) (λ i. poured_brings others s t 0 0 p y hy i) r);
  rest = o.rest;
}

module _ (firsts others f : List ℕ) where
  -- a row whose node is among the firsts is thinned
  pub thins : (c z : List ℕ) (a : ℕ) → Has firsts 0 a → RowThinned (KeptIn others f a) c z a → Thins (KeptOf firsts others f) c z a
  thins c z a i r = record {
    row = λ y hy h j. (r.gives y hy h).1;
    gives = λ x y hy. row_or_rest (λ x. Has z x y → Has c x y) a (λ h. (r.gives y hy h).0) (λ x e h. sym (r.rest x y hy e) ∙ h) x;
    keeps = λ x y hy.
        row_or_rest (λ x. Has c x y → KeptOf firsts others f x y → Has z x y) a (λ h p. r.keeps y hy h (p i)) (λ x e h p. r.rest x y hy e ∙ h) x;
  }

  -- another stays as it is
  pub stays : (c : List ℕ) (a : ℕ) → (Has firsts 0 a → ⊥) → Thins (KeptOf firsts others f) c c a
  stays c a out = record { row = λ y hy h i. absurd (out i); gives = λ x y hy h. h; keeps = λ x y hy h p. h }

-- a set is empty exactly if the search for its first node finds none
pub empty_told : (s : List ℕ) (n r : ℕ) → Least (Has s 0) 0 n r → Tells (eqb r n) (Nobody s n)
empty_told s n r h = told_map (T (eqb r n)) (Nobody s n) (eqb r n) none some (tells (eqb r n) refl)
  where
    none : T (eqb r n) → Nobody s n
    none t z l i = let e = eqb→eq r n t in h.none z (omega arith) (omega arith) i

    some : Nobody s n → T (eqb r n)
    some f = go (dec_lt r n)
      where
        go : Dec (r < n) → T (eqb r n)
        go (yes l) = absurd (f r l (h.here l))
        go (no l) = eq→eqb r n (omega (arith, h.low))

-- ── Past one fence ──────────────────────────────────────────────────────────
module _ (q fence : ℕ) {L : Listing} {n : ℕ} (few : Counted L n) where
  -- where the listing has no such fence nothing changes
  pub past_none : (fences c : List ℕ) → Members fences n (λ z. T (eqb (kind_at L z) fence)) → Nobody fences n
      → ((a b : ℕ) → b < 128 → Has c a b → (a < n) × (b < n) × ClearOf q FENCE L a b) → Thinned (ClearIfLooked q fence L) c c n
  past_none fences c hs out h = record {
    gives = λ a b l i. (i, λ la s t. past_absent q few fence (λ z lz k. out z lz (hs.whole z lz k)) a b (h a b l i).2);
    keeps = λ a b l i p. i;
  }

  -- else the pairs that it looks at are kept where a walk passes it
  pub past_kept : (firsts others f c z : List ℕ) → Members firsts n (λ x. T (looks_first fence (kind_at L x)))
      → Members others n (λ y. T (not (looks_second fence (kind_at L y)))) → Holds f n (ClearOf q fence L)
      → ((a b : ℕ) → b < 128 → Has c a b → (a < n) × (b < n) × ClearOf q FENCE L a b)
      → Thinned (KeptOf firsts others f) c z n → Thinned (ClearIfLooked q fence L) c z n
  past_kept firsts others f c z hs ho hf h k = record {
    gives = λ a b l i.
        let g = k.gives a b l i in (
          g.0,
          λ la s t.
              ⊎_elim (λ j. (hf.sound a b l j).2) (λ j. absurd (T_not (looks_second fence (kind_at L b)) (ho.sound b l j).1 t)) (g.1 la (hs.whole a la s)),
        );
    keeps = λ a b l i p. k.keeps a b l i (λ j. kept a b l i j p (T? (looks_second fence (kind_at L b))));
  }
    where
      kept : (a b : ℕ) → b < 128 → Has c a b → Has firsts 0 a → ClearIfLooked q fence L a b → Dec (T (looks_second fence (kind_at L b))) → KeptIn others f a b
      kept a b l i j p (yes t) = let g = h a b l i in inl (hf.whole a b g.0 g.1 (p (hs.sound a (omega (arith, few.small, g.0)) j).1 t))
      kept a b l i j p (no e) = inr (ho.whole b (h a b l i).1 (not_T (looks_second fence (kind_at L b)) e))

-- ── Past all of them ────────────────────────────────────────────────────────
module _ (q : ℕ) {L : Listing} {n : ℕ} (few : Counted L n)
    {c d f : List ℕ} (low : Low n c) (hf : Holds f n (ClearOf q FENCE L)) (o : Common f c d) where
  -- what is left past full fences
  pub full_cleared : (a b : ℕ) → b < 128 → Has d a b → (a < n) × (b < n) × ClearOf q FENCE L a b
  full_cleared a b l i = hf.sound a b l (o.gives a b l i).1

  full_kept : (a b : ℕ) → b < 128 → Has c a b → Clear q L a b → Has d a b
  full_kept a b l i p = let g = low a b l i in o.keeps a b l i (hf.whole a b g.0 g.1 (clear_full q few a b p))

  -- where barriers do not look at the ends that is all
  pub kept_old : by_ends (question q) ≡ false → Thinned (Clear q L) c d n
  kept_old e = record {
    gives = λ a b l i. ((o.gives a b l i).0, λ la. clear_old q few a b e (full_cleared a b l i).2);
    keeps = full_kept;
  }

  -- ELSE PAST LOAD FENCES AND STORE FENCES TOO
  pub kept_all : {v z : List ℕ} → Thinned (ClearIfLooked q LOAD_FENCE L) d v n → Thinned (ClearIfLooked q STORE_FENCE L) v z n → Thinned (Clear q L) c z n
  kept_all k s = record {
    gives = λ a b l i.
        let y = s.gives a b l i in
        let x = k.gives a b l y.0 in
        ((o.gives a b l x.0).0, λ la. clear_past q few a b (full_cleared a b l x.0).2 (x.1 la) (y.1 la));
    keeps = λ a b l i p. s.keeps a b l (k.keeps a b l (full_kept a b l i p) (clear_load q few a b p)) (clear_store q few a b p);
  }
