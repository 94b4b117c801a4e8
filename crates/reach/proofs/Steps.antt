-- Two steps, poured row by row; and a relation turned round, row by row.
use mathlib.Core.Path.{◌≡◌, sym, ◌∙◌}
use mathlib.Core.Logic.{◌⊎◌, inl, inr, ⊎_elim}
use mathlib.Core.List.{List}
use Prim.Native.Nat.{ℕ, ◌+◌, ◌≤◌, ◌<◌}
use native.Mathlib.Omega.{arith}
use native.Mathlib.Decide.{dec_lt}
use borrow.Author.Count.{below_more}
use Rattle.rows.specs.Inner.Rows.{Has, Holds, Low, Blank}
use Rattle.rows.specs.Inner.Touched.{Added, Poured, Alike}
use Rattle.rows.specs.Inner.Growing.{RowGrown, RowsDone}
use Rattle.rows.proofs.Growing.{grown_empty, grown_map, grown_pour, grown_copy}
use Rattle.reach.specs.Inner.Whole.{Then, Converse, Turning}

-- ---- two steps: row x has got what is two steps away, the first of them to a node below k

module _ (n : ℕ) (r w : List ℕ) (x : ℕ) where
  pub then_none : (v : List ℕ) → RowGrown (Then 0 r w) v v x n
  then_none v = grown_empty (Then 0 r w) v x n (λ y t. let l = t.1 in omega arith)

  module _ (v u : List ℕ) (k : ℕ) where
    up : (j y : ℕ) → k ≤ j → Then k r w x y → Then j r w x y
    up j y h t = let l = t.1 in (t.0, omega arith, t.2, t.3)

    -- the nodes that row x of r does not name are passed over
    pub then_jump : (j : ℕ) → k ≤ j → ((z : ℕ) → k ≤ z → z < j → Has r x z → ⊥) → RowGrown (Then k r w) v u x n → RowGrown (Then j r w) v u x n
    then_jump j h ne = grown_map (Then k r w) (Then j r w) v u x n (λ y. up j y h) (λ y t. down y t (dec_lt t.0 k))
      where
        down : (y : ℕ) (t : Then j r w x y) → Dec (t.0 < k) → Then k r w x y
        down y t (yes l) = (t.0, l, t.2, t.3)
        down y t (no l) = absurd (ne t.0 (omega arith) t.1 t.2)

    pub then_pour : (z : List ℕ) → n ≤ 128 → Low n w → Has r x k → RowGrown (Then k r w) v u x n → Poured w u z x k → RowGrown (Then (k + 1) r w) v z x n
    then_pour z hn low t =
        grown_pour (Then k r w) (Then (k + 1) r w) w v u z x k n hn (λ y. up (k + 1) y (omega arith))
        (λ y hy h. ((low k y hy h).1, (k, omega arith, t, h))) (λ y hy s. last y s (dec_lt s.0 k))
      where
        last : (y : ℕ) (s : Then (k + 1) r w x y) → Dec (s.0 < k) → Then k r w x y ⊎ Has w k y
        last y s (yes l) = inl (s.0, l, s.2, s.3)
        last y s (no l) = let h = s.1 in let e : s.0 ≡ k = omega arith in inr (rw e at s.3)

-- a row that is like an earlier one leads to the same
pub then_copy : (n : ℕ) (r w v u : List ℕ) (k y : ℕ) → n ≤ 128 → y < k → Alike r k y
    → RowsDone (Then n r w) v k n → Poured v v u k y → RowGrown (Then n r w) v u k n
then_copy n r w v u k y hn hy same d =
    grown_copy (Then n r w) v u k y n hn hy d
    (λ z t. let l = t.1 in (t.0, t.1, same t.0 (omega arith) ∙ t.2, t.3))
    (λ z t. let l = t.1 in (t.0, t.1, sym (same t.0 (omega arith)) ∙ t.2, t.3))

-- ---- turned round

pub turning_none : (w v : List ℕ) (a : ℕ) → Turning w v v a 0
turning_none w v a = record { gives = λ x y hy h. inl h; keeps = λ x y hy h. h; done = λ x hx. absurd (omega arith) }

module _ (w v u : List ℕ) (a k : ℕ) (ha : a < 128) (g : Turning w v u a k) where
  -- the rows that row a does not name are passed over
  pub turning_jump : (j : ℕ) → k ≤ j → ((z : ℕ) → k ≤ z → z < j → Has w a z → ⊥) → Turning w v u a j
  turning_jump j h ne =
      record {
        gives = λ x y hy p. ⊎_elim inl (λ t. inr (let l = t.1 in (t.0, omega arith, t.2))) (g.gives x y hy p);
        keeps = g.keeps;
        done = λ x hx p. by x hx p (dec_lt x k);
      }
    where
      by : (x : ℕ) → x < j → Has w a x → Dec (x < k) → Has u x a
      by x hx p (yes l) = g.done x l p
      by x hx p (no l) = absurd (ne x (omega arith) hx p)

  pub turning_put : (z : List ℕ) → Has w a k → Added u z k a → Turning w v z a (k + 1)
  turning_put z t o =
      record {
        gives = λ x y hy h.
            ⊎_elim (λ q. ⊎_elim inl (λ s. inr (let l = s.1 in (s.0, omega arith, s.2))) (g.gives x y hy q))
            (λ q. let e = q.0 in inr (q.1, omega arith, rw e t)) (o.gives x y hy h);
        keeps = λ x y hy h. o.keeps x y hy (g.keeps x y hy h);
        done = below_more (λ x. Has w a x → Has z x a) k (λ x h p. o.keeps x a ha (g.done x h p)) (λ p. o.new);
      }

-- the rows below k of w are turned round
pub record ConverseBelow (n : ℕ) (w v : List ℕ) (k : ℕ) : Type 0 where
  pub gives : (x y : ℕ) → y < 128 → Has v x y → (x < n) × (y < k) × Has w y x
  pub keeps : (x y : ℕ) → x < n → y < k → Has w y x → Has v x y

pub converse_none : (n : ℕ) (w v : List ℕ) → Blank v → ConverseBelow n w v 0
converse_none n w v b = record { gives = λ x y hy h. absurd (b x y hy h); keeps = λ x y hx hy. absurd (omega arith) }

pub converse_more : (n : ℕ) (w v u : List ℕ) (k : ℕ) → k < 128 → ConverseBelow n w v k → Turning w v u k n → ConverseBelow n w u (k + 1)
converse_more n w v u k hk c g =
    record {
      gives = λ x y hy h.
          ⊎_elim (λ q. let o = c.gives x y hy q in let o₁ = o.1 in (o.0, omega arith, o.2))
          (λ q. let e = q.0 in (q.1, omega arith, rw e q.2)) (g.gives x y hy h);
      keeps = λ x y hx hy. below_more (λ y. Has w y x → Has u x y) k
          (λ y h p. g.keeps x y (omega arith) (c.keeps x y hx h p)) (g.done x hx) y hy;
    }

pub converse_all : (n : ℕ) (w v : List ℕ) → ConverseBelow n w v n → Holds v n (Converse w)
converse_all n w v t = record { sound = t.gives; whole = t.keeps }
