-- Going down by the least pairs gives the least of the shortest courses.
use mathlib.Core.Path.{◌≡◌, refl}
use mathlib.Core.Logic.{⊎_elim}
use mathlib.Core.List.{List, ◌∷◌}
use Prim.Native.Nat.{ℕ, suc, ◌*◌, ◌≤◌, ◌<◌}
use native.Mathlib.Omega.{arith}
use native.Mathlib.Decide.{dec_lt, ℕ_discrete}
use lib.ListN.{length, get_or}
use Rattle.rows.specs.Inner.Rows.{Holds, Link}
use Rattle.reach.specs.Inner.Whole.{Then}
use Rattle.chains.specs.Inner.Far.{Path, here, step, Goal, Far}
use Rattle.chains.specs.Inner.Courses.{Course, end, go, Lex, nil, less, same, BestCourse, Sought, ShownCourse}
use Rattle.chains.specs.Inner.Descent.{Steep, stop, down, Downhill, Descent}
use Rattle.chains.proofs.Paths.{no_steps}
use Rattle.chains.proofs.Strides.{Stride, stride, stride_far, lower, slope}

abbrev CourseTo : ℕ → List ℕ → List ℕ → List ℕ → ℕ → List ℕ → Type 0
CourseTo n m w t = Course (Link n m) (Link n w) (Goal n t)

path_of_course : (n : ℕ) (m w t : List ℕ) {x : ℕ} {l : List ℕ} → CourseTo n m w t x l → (k : ℕ) × (length l ≡ 2 * k) × Path (Stride n m w) (Goal n t) x k
path_of_course n m w t (end i) = (0, refl, here i)
path_of_course n m w t (go {x = x} {c = c} {y = y} a b k) =
    let r = path_of_course n m w t k in
    let e = r.1 in
    (suc r.0, omega arith, step (stride n m w x c y a b) r.2)

steep_length : {n : ℕ} {m w d : List ℕ} {k x : ℕ} {l : List ℕ} → Steep n m w d k x l → length l ≡ 2 * k
steep_length (stop e) = refl
steep_length (down hc i hy g p) = let a = steep_length p in omega arith

-- ---- a descent by distances is the best course

module _ (n : ℕ) (m w t d : List ℕ) (hn : n ≤ 128) (f : Far n (Stride n m w) (Goal n t) d) where
  -- a course has no fewer pairs than its beginning is away
  away : (z : ℕ) {q : List ℕ} → z < n → CourseTo n m w t z q → 2 * get_or d z 0 ≤ length q
  away z hz v = let u = path_of_course n m w t v in let e = u.1 in let h = f.least z hz u.0 u.2 in omega arith

  steep_course : (x : ℕ) {k : ℕ} {l : List ℕ} → x < n → Steep n m w d k x l → CourseTo n m w t x l
  steep_course x hx (stop e) = end (no_steps (f.path x hx (omega arith)) (omega arith))
  steep_course x hx (down {y = y} hc i hy g p) = go (hx, hc, (i.here hc).0) (hc, hy, (g.here hy).0) (steep_course y hy p)

  steep_least : (x : ℕ) {k : ℕ} {l q : List ℕ} → get_or d x 0 ≡ k → Steep n m w d k x l → CourseTo n m w t x q → length q ≡ length l → Lex l q
  steep_least x o (stop e) (end i) e' = nil
  steep_least x o (stop e) (go a b v) e' = absurd (omega arith)
  steep_least x o (down hc i hy g p) (end j) e' = absurd (omega arith)
  steep_least x o (down {r = r} {c = c} {y = y} {l = l} hc i hy g p) (go {c = b} {y = z} {l = q} s₁ s₂ v) e' =
      by (dec_lt b c) (ℕ_discrete c b) (dec_lt z y) (ℕ_discrete y z) (λ v'. steep_least y (g.here hy).1 p v' (omega arith))
    where
      -- the other's first pair ends at distance r too
      near : get_or d z 0 ≡ r
      near =
          let a = steep_length p in
          let h = away z s₂.1 v in
          let j = lower n m w t d hn f x z (stride n m w x b z s₁ s₂) in
          omega arith

      by : Dec (b < c) → Dec (c ≡ b) → Dec (z < y) → Dec (y ≡ z) → (CourseTo n m w t y q → Lex l q) → Lex (c ∷ y ∷ l) (b ∷ z ∷ q)
      by (yes h) n₁ n₂ n₃ rec = absurd (i.none b (omega arith) h (s₁.2, (z, s₂, near)))
      by (no h) (no n₁) n₂ n₃ rec = let a : c < b = omega arith in less a
      by (no h) (yes n₁) (yes n₂) n₃ rec = absurd (g.none z (omega arith) n₂ (rw (← n₁) at s₂.2, near))
      by (no h) (yes n₁) (no n₂) (no n₃) rec = let a : y < z = omega arith in rw (← n₁) (same (less a))
      by (no h) (yes n₁) (no n₂) (yes n₃) rec = rw (← n₁, ← n₃) (same (same (rec (rw (← n₃) at v))))

  best : (x : ℕ) {l : List ℕ} → x < n → Steep n m w d (get_or d x 0) x l → BestCourse (Link n m) (Link n w) (Goal n t) x l
  best x hx p =
      record {
        course = steep_course x hx p;
        short = λ q v. (let b = steep_length p in let h = away x hx v in omega arith);
        least = λ q. steep_least x refl p;
      }

-- ---- the rows v of two steps, and the distances by them

module _ (n : ℕ) (m w t v d o : List ℕ) (x : ℕ) (a : Sought n m w t o x) (c : Holds v n (Then n m w)) (h : Far n (Link n v) (Goal n t) d) where
  far : Far n (Stride n m w) (Goal n t) d
  far = stride_far n m w v a.few c h

  within : get_or d x 0 < n
  within =
      let u = path_of_course n m w t a.some.1 in
      ⊎_elim (λ e. absurd (far.never x a.low e u.0 u.2)) (λ b. b) (far.bound x a.low)

  pub downhill : Downhill n m w d o x (get_or d x 0)
  downhill =
      record {
        few = a.few;
        low = a.low;
        at = refl;
        room = within;
        fits = omega (arith, within);
        slope = slope n m w t d a.few far;
      }

  -- THE DESCENT SHOWS THE LEAST OF THE SHORTEST COURSES
  pub shown : (p : List ℕ) → Descent n m w d o p x (get_or d x 0) → ShownCourse n m w t o p x (get_or d x 0)
  shown p q =
      record {
        best = best n m w t d a.few far x a.low q.steep;
        count = steep_length q.steep;
        bound = within;
        beyond = q.beyond;
        long = q.long;
      }
