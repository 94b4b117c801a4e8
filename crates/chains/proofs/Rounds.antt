-- A round of the search for distances, node by node: who steps to one at distance r and has no distance is given the next.
use mathlib.Core.Path.{◌≡◌, refl, subst, ◌∙◌}
use mathlib.Core.Bool.{Bool, true, false, ◌||◌}
use mathlib.Core.List.{List}
use Prim.Native.Nat.{ℕ, ◌+◌, ◌≤◌, ◌<◌}
use native.Mathlib.Omega.{arith}
use native.Mathlib.Decide.{dec_lt}
use lib.ListN.{length, get_or, set}
use lib.Seq.{get_or-set_same, get_or-set_other}
use Rattle.rows.specs.Inner.Rows.{Members}
use Rattle.chains.specs.Inner.Far.{unreached}
use Rattle.chains.specs.Inner.Levels.{unset, AtDistance, Into, Hits, Fate, had, without, given, Swept}
use Rattle.chains.proofs.Unset.{unset_set}

-- ---- a node

module _ (A : ℕ → Type 0) (d : List ℕ) (r : ℕ) where
  -- none is given a distance
  unchanged : (b n : ℕ) → b ≤ n → ((x : ℕ) → b ≤ x → x < n → Fate (get_or d x 0) (get_or d x 0) r (A x)) → Swept A b n d d r false
  unchanged b n h f = record { fate = f; same = λ x ne. refl; fewer = λ z. cc; still = λ z. refl; low = h; few = omega arith }

  pub swept_none : Swept A 0 0 d d r false
  swept_none = unchanged 0 0 (omega arith) (λ x h k. absurd (omega arith))

  module _ (x : ℕ) where
    -- what holds at x holds from x on and below x + 1
    only : (B : ℕ → Type 0) → B x → (y : ℕ) → x ≤ y → y < x + 1 → B y
    only B p y h k = let e : x ≡ y = omega arith in subst B e p

    same_fate : Fate (get_or d x 0) (get_or d x 0) r (A x) → Swept A x (x + 1) d d r false
    same_fate f = unchanged x (x + 1) (omega arith) (only (λ (y : ℕ). Fate (get_or d y 0) (get_or d y 0) r (A y)) f)

    pub visit_old : (get_or d x 0 ≡ unreached → ⊥) → Swept A x (x + 1) d d r false
    visit_old ne = same_fate (had ne refl)

    pub visit_far : get_or d x 0 ≡ unreached → (A x → ⊥) → Swept A x (x + 1) d d r false
    visit_far e ne = same_fate (without e e ne)

    pub visit_new : x < length d → r + 1 < unreached → get_or d x 0 ≡ unreached → A x → Swept A x (x + 1) d (set d x (r + 1)) r true
    visit_new hx hr e a =
        record {
          fate = only (λ (y : ℕ). Fate (get_or d y 0) (get_or (set d x (r + 1)) y 0) r (A y)) (given e (get_or-set_same d x (r + 1) 0 hx) a);
          same = λ y ne. get_or-set_other d x y (r + 1) 0 (λ q. ne (omega arith) (omega arith));
          fewer = λ z. (let u = unset_set d x (r + 1) hx e (λ z. omega arith) in omega arith);
          still = λ z. cc;
          low = omega arith;
          few = let u = unset_set d x (r + 1) hx e (λ z. omega arith) in omega arith;
        }

-- ---- node by node

no_more : {A : ℕ → Type 0} {d e : List ℕ} {r b n : ℕ} {i : Bool} → Swept A b n d e r i → unset e ≤ unset d
no_more {i = true} g = omega (arith, g.fewer refl)
no_more {i = false} g = rw (g.still refl) (omega arith)

fewer_more : {A : ℕ → Type 0} {d e f : List ℕ} {r b k n : ℕ} {i j : Bool} → Swept A b k d e r i → Swept A k n e f r j → (i || j) ≡ true → unset f < unset d
fewer_more {i = true} g v z = omega (arith, g.fewer refl, no_more v)
fewer_more {i = false} g v z = omega (arith, no_more g, v.fewer z)

still_more : {A : ℕ → Type 0} {d e f : List ℕ} {r b k n : ℕ} {i j : Bool} → Swept A b k d e r i → Swept A k n e f r j → (i || j) ≡ false → f ≡ d
still_more {i = true} g v z = cc
still_more {i = false} g v z = v.still z ∙ g.still refl

pub swept_more : (A : ℕ → Type 0) (d e f : List ℕ) (r b k n : ℕ) (i j : Bool) → Swept A b k d e r i → Swept A k n e f r j → Swept A b n d f r (i || j)
swept_more A d e f r b k n i j g v =
    let hb = g.low in
    let hk = v.low in
    record {
      fate = λ x h l. by x h l (dec_lt x k);
      same = λ x ne. v.same x (λ p q. ne (omega arith) q) ∙ g.same x (λ p q. ne p (omega arith));
      fewer = fewer_more g v;
      still = still_more g v;
      low = omega arith;
      few = omega (arith, g.few, v.few);
    }
  where
    by : (x : ℕ) → b ≤ x → x < n → Dec (x < k) → Fate (get_or d x 0) (get_or f x 0) r (A x)
    by x h l (yes o) = rw (v.same x (λ p q. omega arith)) (g.fate x h o)
    by x h l (no o) = rw (← (g.same x (λ p q. omega arith))) (v.fate x (omega arith) l)

-- ---- by distance

-- a node steps into the row of those at distance r where it steps to one at distance r
module _ (n : ℕ) (w s d : List ℕ) (r : ℕ) (hn : n ≤ 128) (l : Members s n (AtDistance d r)) where
  pub into_hits : (x : ℕ) → x < n → Into w s x → Hits n w d r x
  into_hits x hx m = let o = l.sound m.0 m.1 m.3 in (m.0, (hx, o.0, m.2), o.1)

  pub hits_into : (x : ℕ) → x < n → Hits n w d r x → Into w s x
  hits_into x hx h = let y = h.1.1 in (h.0, omega arith, h.1.2, l.whole h.0 h.1.1 h.2)

  -- A SWEEP OVER THE NODES AT A DISTANCE IS A ROUND
  pub round_done : (e : List ℕ) (c : Bool) → Swept (Into w s) 0 n d e r c → Swept (Hits n w d r) 0 n d e r c
  round_done e c g = record { fate = λ x h k. by x k (g.fate x h k); same = g.same; fewer = g.fewer; still = g.still; low = g.low; few = g.few }
    where
      by : (x : ℕ) → x < n → Fate (get_or d x 0) (get_or e x 0) r (Into w s x) → Fate (get_or d x 0) (get_or e x 0) r (Hits n w d r x)
      by x k (had ne q) = had ne q
      by x k (without p q ne) = without p q (λ h. ne (hits_into x k h))
      by x k (given p q m) = given p q (into_hits x k m)
