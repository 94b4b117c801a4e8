-- A hop and a pair as one step, a stride; and how distances fall along strides.
use mathlib.Core.Path.{◌≡◌, refl}
use mathlib.Core.Logic.{⊎_elim}
use mathlib.Core.List.{List}
use Prim.Native.Nat.{ℕ, suc, ◌≤◌, ◌<◌}
use native.Mathlib.Omega.{arith}
use native.Mathlib.Decide.{ℕ_discrete}
use lib.ListN.{get_or}
use Rattle.rows.specs.Inner.Rows.{Holds, Link}
use Rattle.reach.specs.Inner.Whole.{Then}
use Rattle.rows.proofs.Holds.{of_link, link_of}
use Rattle.chains.specs.Inner.Far.{unreached, Path, step, Goal, Far}
use Rattle.chains.specs.Inner.Descent.{Slope}
use Rattle.chains.proofs.Paths.{first_step, path_map}

abbrev pub Stride : ℕ → List ℕ → List ℕ → ℕ → ℕ → Type 0
Stride n m w x y = (x < n) × (y < n) × Then n m w x y

pub stride : (n : ℕ) (m w : List ℕ) (x c y : ℕ) → Link n m x c → Link n w c y → Stride n m w x y
stride n m w x c y a b = (a.0, b.1, (c, a.1, a.2, b.2))

-- distances over the rows of two steps are distances by strides
pub stride_far : (n : ℕ) (m w v : List ℕ) → n ≤ 128 → Holds v n (Then n m w) → {T : ℕ → Type 0} {d : List ℕ} → Far n (Link n v) T d → Far n (Stride n m w) T d
stride_far n m w v hn c f =
    record {
      never = λ x hx e k p. f.never x hx e k (path_map to_link p);
      path = λ x hx ne. path_map of_rows (f.path x hx ne);
      least = λ x hx k p. f.least x hx k (path_map to_link p);
      bound = f.bound;
      beyond = f.beyond;
    }
  where
    to_link : (x y : ℕ) → Stride n m w x y → Link n v x y
    to_link x y s = link_of c x y s.0 s.1 s.2

    of_rows : (x y : ℕ) → Link n v x y → Stride n m w x y
    of_rows x y s = (s.0, s.1, of_link hn c x y s)

module _ (n : ℕ) (m w t d : List ℕ) (hn : n ≤ 128) (f : Far n (Stride n m w) (Goal n t) d) where
  -- a stride loses at most one
  pub lower : (x z : ℕ) → Stride n m w x z → get_or d x 0 ≤ suc (get_or d z 0)
  lower x z s = by (ℕ_discrete (get_or d z 0) unreached)
    where
      by : Dec (get_or d z 0 ≡ unreached) → get_or d x 0 ≤ suc (get_or d z 0)
      by (yes q) = ⊎_elim (λ b. omega arith) (λ b. omega arith) (f.bound x s.0)
      by (no q) = f.least x s.0 (suc (get_or d z 0)) (step s (f.path z s.1 q))

  -- FROM EVERY DISTANCE BUT 0 THERE IS A WAY DOWN
  pub slope : Slope n m w d
  slope x r hx e h =
      let p : Path (Stride n m w) (Goal n t) x (suc r) = rw e at (f.path x hx (omega arith)) in
      let u = first_step r p refl in
      let s = u.1 in
      let a = f.least u.0 s.1 r u.2 in
      let b = lower x u.0 s in
      let q = s.2 in
      (q.0, q.1, (q.2, (u.0, (q.1, s.1, q.3), omega arith)))
