-- The rounds of a breadth-first search, one distance a round, give the least lengths of paths.
use mathlib.Core.Path.{◌≡◌, ap, ◌∙◌}
use mathlib.Core.Logic.{◌⊎◌, inl, inr, ⊎_elim}
use mathlib.Core.Bool.{Bool, true, false}
use mathlib.Core.List.{List}
use Prim.Native.Nat.{ℕ, suc, ◌+◌, ◌≤◌, ◌<◌}
use native.Mathlib.Omega.{arith}
use native.Mathlib.Decide.{dec_le, ℕ_discrete}
use native.Mathlib.Numerals.{add-one}
use lib.ListN.{get_or}
use Rattle.rows.specs.Inner.Rows.{Link}
use Rattle.chains.specs.Inner.Far.{unreached, Path, here, step, Goal, Far}
use Rattle.chains.specs.Inner.Levels.{unset, Started, Hits, Fate, had, without, given, Swept}
use Rattle.chains.proofs.Unset.{unset_ge}
use Rattle.chains.proofs.Paths.{no_steps, first_step}

abbrev pub PathTo : ℕ → List ℕ → List ℕ → ℕ → ℕ → Type 0
PathTo n w t = Path (Link n w) (Goal n t)

-- x has its distance, at most r; and r and the nodes that have none are together fewer than all
abbrev Reached : ℕ → List ℕ → List ℕ → List ℕ → ℕ → ℕ → Type 0
Reached n w t d r x = (get_or d x 0 ≤ r) × PathTo n w t x (get_or d x 0) × (r + unset d < 128)

-- all distances up to r are given
pub record Level (n : ℕ) (w t d : List ℕ) (r : ℕ) : Type 0 where
  pub ok : (x : ℕ) → x < n → (get_or d x 0 ≡ unreached) ⊎ Reached n w t d r x
  pub near : (x : ℕ) → x < n → (k : ℕ) → k ≤ r → PathTo n w t x k → get_or d x 0 ≤ k
  pub beyond : (x : ℕ) → n ≤ x → x < 128 → get_or d x 0 ≡ unreached
  pub room : r + unset d ≤ 128

pub level_start : (n : ℕ) (w t d : List ℕ) → n ≤ 128 → Started n t d → Level n w t d 0
level_start n w t d hn g =
    record {
      ok = λ x hx. ⊎_elim (λ q. inr (goal x hx q.0 q.1)) (λ q. inl q.1) (g.at x (omega arith));
      near = λ x hx k hk p. ⊎_elim (λ q. let a = q.1 in omega arith) (λ q. absurd (q.0 (no_steps p hk))) (g.at x (omega arith));
      beyond = λ x h hx. ⊎_elim (λ q. let a = q.0.0 in absurd (omega arith)) (λ q. q.1) (g.at x hx);
      room = omega (arith, g.few);
    }
  where
    goal : (x : ℕ) → x < n → Goal n t x → get_or d x 0 ≡ 0 → Reached n w t d 0 x
    goal x hx i e = (omega arith, rw e (here i), omega (arith, g.fewer x (omega arith) (λ z. omega arith)))

-- a round
module _ (n : ℕ) (w t d e : List ℕ) (r : ℕ) (found : Bool) (l : Level n w t d r) (g : Swept (Hits n w d r) 0 n d e r found) where
  reached : (x : ℕ) → x < n → (get_or d x 0 ≡ unreached → ⊥) → Reached n w t d r x
  reached x hx ne = ⊎_elim (λ q. absurd (ne q)) (λ q. q) (l.ok x hx)

  reached_low : (x : ℕ) → x < n → get_or d x 0 ≤ r → Reached n w t d r x
  reached_low x hx h = reached x hx (λ q. omega (arith, l.room))

  -- x is at most one further than y, or is given its distance now
  abbrev OneMore : ℕ → ℕ → Type 0
  OneMore x y = ((get_or d x 0 ≤ suc (get_or d y 0)) × (get_or d x 0 ≤ r)) ⊎ ((get_or d x 0 ≡ unreached) × (get_or e x 0 ≡ r + 1))

  stepped : (x y : ℕ) → x < n → Link n w x y → get_or d y 0 ≤ r → OneMore x y
  stepped x y hx s h = by (ℕ_discrete (get_or d y 0) r)
    where
      last : get_or d y 0 ≡ r → Fate (get_or d x 0) (get_or e x 0) r (Hits n w d r x) → OneMore x y
      last q (had ne k) = let a = (reached x hx ne).0 in inl (omega arith, a)
      last q (without p k ne) = absurd (ne (y, s, q))
      last q (given p k i) = inr (p, k)

      by : Dec (get_or d y 0 ≡ r) → OneMore x y
      by (yes q) = last q (g.fate x (omega arith) hx)
      by (no q) =
          let a : get_or d x 0 ≤ suc (get_or d y 0) = l.near x hx (suc (get_or d y 0)) (omega arith) (step s (reached_low y s.1 h).1) in
          inl (a, omega arith)

  kept : (x : ℕ) → x < n → get_or d x 0 ≤ r → get_or e x 0 ≡ get_or d x 0
  kept x hx h = by (g.fate x (omega arith) hx)
    where
      by : Fate (get_or d x 0) (get_or e x 0) r (Hits n w d r x) → get_or e x 0 ≡ get_or d x 0
      by (had ne k) = k
      by (without p k ne) = absurd (omega (arith, l.room))
      by (given p k i) = absurd (omega (arith, l.room))

  near_more : (x : ℕ) → x < n → (m : ℕ) → m ≤ r + 1 → PathTo n w t x m → get_or e x 0 ≤ m
  near_more x hx m hm p = by (dec_le m r)
    where
      by : Dec (m ≤ r) → get_or e x 0 ≤ m
      by (yes h) = let a = l.near x hx m h p in omega (arith, kept x hx (omega arith))
      by (no h) =
          let f : m ≡ suc r = omega arith in
          let u = first_step r p f in
          let a = l.near u.0 u.1.1 r (omega arith) u.2 in
          ⊎_elim (λ q. let b = q.0 in omega (arith, kept x hx q.1)) (λ q. let b = q.1 in omega arith) (stepped x u.0 hx u.1 a)

  ok_more : found ≡ true → (x : ℕ) → x < n → (get_or e x 0 ≡ unreached) ⊎ Reached n w t e (r + 1) x
  ok_more pos x hx = by (g.fate x (omega arith) hx)
    where
      by : Fate (get_or d x 0) (get_or e x 0) r (Hits n w d r x) → (get_or e x 0 ≡ unreached) ⊎ Reached n w t e (r + 1) x
      by (had ne k) =
          let a = reached x hx ne in
          let a₀ = a.0 in
          inr (omega arith, rw k a.1, omega (arith, a.2, g.fewer pos))
      by (without p k ne) = inl k
      by (given p k i) =
          let q : get_or d i.0 0 ≡ r = i.2 in
          let a = reached_low i.0 i.1.1 (omega arith) in
          inr (omega arith, rw (k, add-one) (step i.1 (rw q at a.1)), omega (arith, a.2, g.fewer pos))

  pub level_more : found ≡ true → Level n w t e (r + 1)
  level_more pos =
      record {
        ok = ok_more pos;
        near = near_more;
        beyond = λ x h hx. g.same x (λ a b. omega arith) ∙ l.beyond x h hx;
        room = omega (arith, l.room, g.fewer pos);
      }

  module _ (z : found ≡ false) where
    -- where a round gave nothing, every node with a path has its distance
    reach_all : {x m : ℕ} → PathTo n w t x m → x < n → (get_or d x 0 ≤ m) × (get_or d x 0 ≤ r)
    reach_all {x} (here i) hx = let a = l.near x hx 0 (omega arith) (here i) in (a, omega arith)
    reach_all {x} (step {y = y} {k = k} s p) hx = by (reach_all p s.1)
      where
        same : get_or e x 0 ≡ get_or d x 0
        same = ap (λ (j : List ℕ). get_or j x 0) (g.still z)

        by : (get_or d y 0 ≤ k) × (get_or d y 0 ≤ r) → (get_or d x 0 ≤ suc k) × (get_or d x 0 ≤ r)
        by a =
            let a₀ = a.0 in
            ⊎_elim (λ q. let b = q.0 in (omega arith, q.1))
            (λ q. let b = q.0 in let b' = q.1 in absurd (omega (arith, same, l.room)))
            (stepped x y hx s a.1)

    -- a shortest path has different nodes
    within : (x : ℕ) → Reached n w t d r x → get_or d x 0 < n
    within x q = let a = q.0 in omega (arith, q.2, unset_ge d 128 n (λ i h k. l.beyond i h k))

    -- WHERE A ROUND GIVES NOTHING, THE DISTANCES ARE THE LEAST LENGTHS
    pub level_end : Far n (Link n w) (Goal n t) e
    level_end =
        rw (g.still z) (record {
          never = λ x hx q m p. (let b = (reach_all p hx).1 in omega (arith, l.room));
          path = λ x hx q. (reached x hx q).1;
          least = λ x hx m p. (reach_all p hx).0;
          bound = λ x hx. ⊎_elim inl (λ q. inr (within x q)) (l.ok x hx);
          beyond = l.beyond;
        })
