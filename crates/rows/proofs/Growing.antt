-- Sets and rows that are filled node by node, over any property and any relation.
use mathlib.Core.Path.{◌≡◌, refl, sym, subst, ◌∙◌}
use mathlib.Core.Logic.{◌⊎◌, inl, inr, ⊎_elim}
use mathlib.Core.List.{List}
use Prim.Native.Nat.{ℕ, ◌+◌, ◌≤◌, ◌<◌}
use native.Mathlib.Omega.{arith}
use native.Mathlib.Decide.{dec_lt}
use borrow.Author.Count.{below_more}
use Rattle.rows.specs.Inner.Rows.{Has, Holds, Members, Blank}
use Rattle.rows.specs.Inner.Touched.{Added, Poured}
use Rattle.rows.specs.Inner.Growing.{RowGrown, RowsDone}
use Rattle.rows.proofs.Places.{row_or_rest}
use Rattle.rows.proofs.OneRow.{poured_gives, poured_keeps, poured_brings}

-- ── A set ───────────────────────────────────────────────────────────────────
module _ (P : ℕ → Type 0) where
  pub members_none : (s : List ℕ) → Blank s → Members s 0 P
  members_none s h = record { sound = λ b l g. absurd (h 0 b l g); whole = λ b l p. absurd (omega arith) }

  pub members_put : (s v : List ℕ) (i : ℕ) → i < 128 → Members s i P → P i → Added s v 0 i → Members v (i + 1) P
  members_put s v i l m p d = record {
    sound = λ b k g. gives b k (d.gives 0 b k g);
    whole = below_more (λ b. P b → Has v 0 b) i (λ b h q. d.keeps 0 b (omega arith) (m.whole b h q)) (λ q. d.new);
  }
    where
      gives : (b : ℕ) → b < 128 → Has s 0 b ⊎ ((◌≡◌ {A = ℕ} 0 0) × (b ≡ i)) → (b < i + 1) × P b
      gives b k (inl g) = let x = m.sound b k g in (omega (arith, x.0), x.1)
      gives b k (inr e) = (omega (arith, e.1), subst P (sym e.1) p)

  pub members_skip : (s : List ℕ) (i : ℕ) → Members s i P → (P i → ⊥) → Members s (i + 1) P
  members_skip s i m n = record {
    sound = λ b k g. let x = m.sound b k g in (omega (arith, x.0), x.1);
    whole = below_more (λ b. P b → Has s 0 b) i m.whole (λ q. absurd (n q));
  }

-- ── A row ───────────────────────────────────────────────────────────────────
module _ (A : ℕ → ℕ → Type 0) where
  -- what a row of w has, or has got below k
  abbrev Got : List ℕ → ℕ → ℕ → ℕ → ℕ → Type 0
  Got w a k x y = Has w x y ⊎ ((x ≡ a) × (y < k) × A a y)

  wider : (w : List ℕ) (a k j x y : ℕ) → k ≤ j → Got w a k x y → Got w a j x y
  wider w a k j x y l = ⊎_elim inl (λ h. inr (h.0, omega (arith, h.1), h.2))

  pub grown_none : (w : List ℕ) (a : ℕ) → RowGrown A w w a 0
  grown_none w a = record { gives = λ x y l h. inl h; keeps = λ x y l h. h; done = λ y l h. absurd (omega arith) }

  pub grown_put : (w v u : List ℕ) (a k : ℕ) → k < 128 → RowGrown A w v a k → A a k → Added v u a k → RowGrown A w u a (k + 1)
  grown_put w v u a k l g p d = record {
    gives = λ x y m h.
        ⊎_elim (λ q. wider w a k (k + 1) x y (omega arith) (g.gives x y m q))
        (λ e. inr (e.0, omega (arith, e.1), subst (A a) (sym e.1) p)) (d.gives x y m h);
    keeps = λ x y m h. d.keeps x y m (g.keeps x y m h);
    done = below_more (λ y. A a y → Has u a y) k (λ y n h. d.keeps a y (omega arith) (g.done y n h)) (λ h. d.new);
  }

  -- the nodes that a row does not name are passed over
  pub grown_jump : (w v : List ℕ) (a k j : ℕ) → k ≤ j → RowGrown A w v a k → ((z : ℕ) → k ≤ z → z < j → A a z → ⊥) → RowGrown A w v a j
  grown_jump w v a k j l g n = record {
    gives = λ x y m h. wider w a k j x y l (g.gives x y m h);
    keeps = g.keeps;
    done = λ y m h. done y m h (dec_lt y k);
  }
    where
      done : (y : ℕ) → y < j → A a y → Dec (y < k) → Has v a y
      done y m h (yes o) = g.done y o h
      done y m h (no o) = absurd (n y (omega arith) m h)

  pub grown_skip : (w v : List ℕ) (a k : ℕ) → RowGrown A w v a k → (A a k → ⊥) → RowGrown A w v a (k + 1)
  grown_skip w v a k g n =
      grown_jump w v a k (k + 1) (omega arith) g (λ z l m h. let e : z ≡ k = omega arith in n (subst (A a) e h))

  -- a row that keeps nothing
  pub grown_empty : (w : List ℕ) (a n : ℕ) → ((y : ℕ) → A a y → ⊥) → RowGrown A w w a n
  grown_empty w a n e = record { gives = λ x y l h. inl h; keeps = λ x y l h. h; done = λ y l h. absurd (e y h) }

-- a row that keeps one relation keeps every equal one
pub grown_map : (A B : ℕ → ℕ → Type 0) (w v : List ℕ) (a n : ℕ) → ((y : ℕ) → A a y → B a y) → ((y : ℕ) → B a y → A a y)
    → RowGrown A w v a n → RowGrown B w v a n
grown_map A B w v a n f back g = record {
  gives = λ x y m h. ⊎_elim inl (λ t. inr (t.0, t.1, f y t.2)) (g.gives x y m h);
  keeps = g.keeps;
  done = λ y m h. g.done y m (back y h);
}

-- a row that keeps A, and then B once more is poured into it
pub grown_pour : (A B : ℕ → ℕ → Type 0) (u w v z : List ℕ) (a k n : ℕ) → n ≤ 128
    → ((y : ℕ) → A a y → B a y) → ((y : ℕ) → y < 128 → Has u k y → (y < n) × B a y) → ((y : ℕ) → y < n → B a y → A a y ⊎ Has u k y)
    → RowGrown A w v a n → Poured u v z a k → RowGrown B w z a n
grown_pour A B u w v z a k n small f new back g p = record {
  gives = λ x y m. row_or_rest (λ x. Has z x y → Got B w a n x y) a
      (λ h. ⊎_elim (λ q. old a y (g.gives a y m q)) (λ q. let s = new y m q in inr (refl, s.0, s.1)) (poured_gives u v z a k p y m h))
      (λ x e h. old x y (g.gives x y m (sym (p.rest x y m e) ∙ h))) x;
  keeps = λ x y m h. poured_keeps u v z a k p x y m (g.keeps x y m h);
  done = λ y m h.
      ⊎_elim (λ q. poured_keeps u v z a k p a y (omega arith) (g.done y m q)) (poured_brings u v z a k p y (omega arith)) (back y m h);
}
  where
    old : (x y : ℕ) → Got A w a n x y → Got B w a n x y
    old x y = ⊎_elim inl (λ h. inr (h.0, h.1, f y h.2))

-- ── All rows ────────────────────────────────────────────────────────────────
module _ (A : ℕ → ℕ → Type 0) where
  -- a row poured over from an earlier one that keeps the same
  pub grown_copy : (w v : List ℕ) (a k n : ℕ) → n ≤ 128 → k < a → RowsDone A w a n
      → ((y : ℕ) → A k y → A a y) → ((y : ℕ) → A a y → A k y) → Poured w w v a k → RowGrown A w v a n
  grown_copy w v a k n small l d f g p =
      grown_pour (λ x y. ⊥) A w w w v a k n small (λ y h. absurd h)
      (λ y m h. let s = d.sound k y m h in (s.1, f y s.2)) (λ y m h. inr (d.whole k y l m (g y h))) (grown_empty (λ x y. ⊥) w a n (λ y h. h)) p

  pub rows_none : (w : List ℕ) (n : ℕ) → Blank w → RowsDone A w 0 n
  rows_none w n h = record { sound = λ x y l g. absurd (h x y l g); whole = λ x y l m g. absurd (omega arith) }

  pub rows_more : (w v : List ℕ) (k n : ℕ) → n ≤ 128 → RowsDone A w k n → RowGrown A w v k n → RowsDone A v (k + 1) n
  rows_more w v k n small d g = record {
    sound = λ x y l h. sound x y l (g.gives x y l h);
    whole = λ x y l. below_more (λ x. y < n → A x y → Has v x y) k
        (λ x o m h. g.keeps x y (omega arith) (d.whole x y o m h)) (g.done y) x l;
  }
    where
      sound : (x y : ℕ) → y < 128 → Has w x y ⊎ ((x ≡ k) × (y < n) × A k y) → (x < k + 1) × (y < n) × A x y
      sound x y l (inl h) = let s = d.sound x y l h in (omega (arith, s.0), s.1, s.2)
      sound x y l (inr h) = (omega (arith, h.0), h.1, subst (λ (v : ℕ). A v y) (sym h.0) h.2)

  -- ALL ROWS DONE keep the relation
  pub rows_hold : (w : List ℕ) (n : ℕ) → RowsDone A w n n → Holds w n A
  rows_hold w n d = record { sound = d.sound; whole = d.whole }
