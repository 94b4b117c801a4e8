-- What one turn of the search finds: an entry, a node that is left to be followed, the next one of a trail.
use mathlib.Core.Path.{◌≡◌, refl, sym, subst, ◌∙◌}
use mathlib.Core.Logic.{◌⊎◌, inl, inr, ⊎_elim}
use mathlib.Core.List.{List}
use Prim.Native.Nat.{ℕ, ◌+◌, ◌≤◌, ◌<◌}
use native.Mathlib.Omega.{arith}
use borrow.Author.Count.{below_more}
use lib.ListN.{length}
use Rattle.std.specs.Prelude.{Option, Some, None, MatchOption}
use Rattle.listing.specs.Node.{Listing, node}
use Rattle.rows.specs.Inner.Least.{LeastIfAny}
use Rattle.rows.specs.Inner.Rows.{Has, Blank}
use Rattle.rows.specs.Inner.Touched.{Added}
use Rattle.rows.proofs.Growing.{members_none, members_put, members_skip}
use Rattle.reader.specs.Inner.Search.{IsEntry, Seen, Left, Stepped}

-- ── Entries ─────────────────────────────────────────────────────────────────
module _ (L : Listing) where
  abbrev routine_of : ℕ → ℕ
  routine_of a = (node L a).routine

  pub seen_none : (rs found : List ℕ) → Blank rs → Blank found → Seen L rs found 0
  seen_none rs found b c = record {
    of = λ r h g. absurd (b 0 r h g);
    each = λ x h. absurd (omega arith);
    entries = members_none (IsEntry L) found c;
  }

  module _ (rs found : List ℕ) (a : ℕ) (s : Seen L rs found a) where
    -- a node of a routine that was seen is no entry
    pub seen_again : (node L a).routine < 128 → Has rs 0 (node L a).routine → Seen L rs found (a + 1)
    seen_again low g =
        let b = s.of (routine_of a) low g in
        record {
          of = λ r h k. (let c = s.of r h k in (c.0, omega (arith, c.1), c.2));
          each = below_more (λ x. Has rs 0 (routine_of x)) a s.each g;
          entries = members_skip (IsEntry L) found a s.entries (λ e. e.lowest b.0 b.1 b.2);
        }

    -- and one of a routine that was not is
    pub seen_first : (more got : List ℕ) → a < 128 → a < length L → (Has rs 0 (node L a).routine → ⊥) → ((x : ℕ) → x < a → (node L x).routine < 128)
        → Added rs more 0 (node L a).routine → Added found got 0 a → Seen L more got (a + 1)
    seen_first more got l within new low put puts = record {
      of = λ r h k. of r h (put.gives 0 r h k);
      each = below_more (λ x. Has more 0 (routine_of x)) a (λ x h. put.keeps 0 (routine_of x) (low x h) (s.each x h)) put.new;
      entries = members_put (IsEntry L) found got a l s.entries
          (record { within = within; own = refl; lowest = λ x h e. new (subst (Has rs 0) e (s.each x h)) }) puts;
    }
      where
        of : (r : ℕ) → r < 128 → Has rs 0 r ⊎ ((◌≡◌ {A = ℕ} 0 0) × (r ≡ routine_of a)) → (b : ℕ) × (b < a + 1) × (routine_of b ≡ r)
        of r h (inl k) = let c = s.of r h k in (c.0, omega (arith, c.1), c.2)
        of r h (inr e) = (a, omega arith, sym e.1)

-- ── The next node of a trail ────────────────────────────────────────────────
module _ (n : ℕ) (w : List ℕ) (b : ℕ) where
  -- nothing is found where b is no node, or was found
  pub step_none : (b < n → Has w 0 b) → Stepped n w w b None
  step_none f = record { found = λ x h k. inl k; keeps = λ x h k. k; new = f; fresh = λ x e. let z : ⊥ = cc in absurd z }

  pub step_put : (v : List ℕ) → b < n → (Has w 0 b → ⊥) → Added w v 0 b → Stepped n w v b (Some b)
  step_put v l f p = record {
    found = λ x h k. ⊎_elim inl (λ e. inr (e.1, l, refl)) (p.gives 0 x h k);
    keeps = λ x h k. p.keeps 0 x h k;
    new = λ _. p.new;
    fresh = λ x e. let same : x ≡ b = cc in (same, l, λ g. f (subst (Has w 0) same g));
  }

-- ── What is left ────────────────────────────────────────────────────────────
module _ (n : ℕ) (w t v : List ℕ) (b : ℕ) where
  pub left_none : Stepped n w v b None → Left n w t v t b
  left_none s = record {
    found = λ x h k. ⊎_elim inl (λ e. let z : ⊥ = cc in absurd z) (s.found x h k);
    keeps = s.keeps;
    new = s.new;
    waiting = λ x h k. inl k;
    stays = λ x h k. k;
  }

  pub left_put : (u : List ℕ) (y : ℕ) → Stepped n w v b (Some y) → Added t u 0 y → Left n w t v u b
  left_put u y s q = record {
    found = λ x h k. ⊎_elim inl (λ e. inr (e.0, e.1, subst (Has u 0) (let same : y ≡ x = f.0 ∙ sym e.0 in same) q.new)) (s.found x h k);
    keeps = s.keeps;
    new = s.new;
    waiting = λ x h k. ⊎_elim inl (λ e. inr (e.1 ∙ f.0, f.1, λ g. f.2 (subst (Has w 0) e.1 g))) (q.gives 0 x h k);
    stays = λ x h k. q.keeps 0 x h k;
  }
    where
      f : (y ≡ b) × (b < n) × (Has w 0 y → ⊥)
      f = s.fresh y refl

-- ── The first that is missing ───────────────────────────────────────────────
-- the first that has not P is the least
pub first_lacking : (P : ℕ → Type 0) (n : ℕ) (r : Option ℕ)
    → MatchOption r ((k : ℕ) → 0 ≤ k → k < n → P k) (λ i. (0 ≤ i) × (i < n) × (P i → ⊥) × ((k : ℕ) → 0 ≤ k → k < i → P k))
    → LeastIfAny (λ a. P a → ⊥) 0 n r
first_lacking P n None all = record { low = omega arith; from = omega arith; here = λ l. absurd (omega arith); none = λ z l h f. f (all z l h) }
first_lacking P n (Some x) f =
    (f.1, record { low = omega (arith, f.1); from = omega arith; here = λ l. f.2; none = λ z l h k. k (f.3 z l h) })
