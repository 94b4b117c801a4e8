-- Each node put into its own row, one row after the other.
use mathlib.Core.Path.{◌≡◌, sym, ◌∙◌}
use mathlib.Core.Logic.{◌⊎◌, inl, inr, ⊎_elim}
use mathlib.Core.List.{List}
use Prim.Native.Nat.{ℕ, ◌+◌, ◌≤◌, ◌<◌}
use native.Mathlib.Omega.{arith}
use borrow.Author.Count.{below_more}
use Rattle.rows.specs.Inner.Rows.{Has, Holds, Low}
use Rattle.rows.specs.Inner.Touched.{Added}
use Rattle.reach.specs.Inner.Whole.{Stays}

-- the nodes below k stand in their own rows: w before, v after
pub record Staying (w v : List ℕ) (k : ℕ) : Type 0 where
  pub gives : (x y : ℕ) → y < 128 → Has v x y → Has w x y ⊎ ((x < k) × (x ≡ y))
  pub keeps : (x y : ℕ) → y < 128 → Has w x y → Has v x y
  pub own : (x : ℕ) → x < k → Has v x x

pub staying_none : (w : List ℕ) → Staying w w 0
staying_none w = record { gives = λ x y hy h. inl h; keeps = λ x y hy h. h; own = λ x l. absurd (omega arith) }

pub staying_more : (w v z : List ℕ) (k : ℕ) → k < 128 → Staying w v k → Added v z k k → Staying w z (k + 1)
staying_more w v z k hk g t = record {
  gives = λ x y hy h. ⊎_elim
      (λ o. ⊎_elim inl (λ p. let l = p.0 in inr (omega arith, p.1)) (g.gives x y hy o))
      (λ e. let l = e.0 in inr (omega arith, e.0 ∙ sym e.1))
      (t.gives x y hy h);
  keeps = λ x y hy h. t.keeps x y hy (g.keeps x y hy h);
  own = below_more (λ x. Has z x x) k (λ x l. t.keeps x x (omega arith) (g.own x l)) t.new;
}

-- A STEP, OR NO STEP AT ALL
pub staying_all : (w v : List ℕ) (n : ℕ) → n ≤ 128 → Low n w → Staying w v n → Holds v n (Stays w)
staying_all w v n hn l g = record {
  sound = λ a b hb h. ⊎_elim
      (λ o. let e = l a b hb o in (e.0, e.1, inr o))
      (λ p. let o = p.0 in let e = p.1 in (o, omega arith, inl e))
      (g.gives a b hb h);
  whole = λ a b ha hb. elim [
    | inl e ↦ rw e (g.own b hb)
    | inr h ↦ g.keeps a b (omega arith) h
  ];
}
