-- The search for failing pairs, from one second node to the next and from one first node to the next.
use mathlib.Core.Path.{◌≡◌}
use mathlib.Core.Logic.{inl, inr}
use mathlib.Core.Bool.{Bool, true, false, not}
use Rattle.std.specs.Prelude.{Option, Some, None, is_some}
use Prim.Native.Nat.{ℕ, ◌+◌, ◌≤◌, ◌<◌}
use native.Mathlib.Omega.{arith}
use native.Mathlib.Decide.{dec_lt}
use lib.ListN.{length}
use Rattle.listing.specs.Node.{Listing}
use Rattle.order.specs.Verdict.{Fails, Robust, Before, First}
use Rattle.order.proofs.Laws.{access_in}
use Rattle.rows.specs.Inner.Rows.{Tells}
use Rattle.rows.specs.Inner.Least.{Least}
use Rattle.failing.specs.Inner.Failing.{NextFailing, NextIfAny}
use Rattle.failing.specs.declared.search.Found.{Found}

-- the next first node's pairs come no sooner than this one's
pub past_first : (x y a b : ℕ) → (Before (x, y) (a, b) → ⊥) → Before (x + 1, 0) (a, b) → ⊥
past_first x y a b from (inl h) = from (inl (omega arith))
past_first x y a b from (inr h) = from (inl (omega (arith, h.0)))

module _ (q : ℕ) (L : Listing) where
  -- a failing pair's ends are nodes
  pub failing_in : (a b : ℕ) → Fails q L a b → (a < length L) × (b < length L)
  failing_in a b f =
      let p = f.chain.1.pairs.0 in
      (access_in L a p.from, access_in L b p.to)

  module _ (a b : ℕ) where
    -- no pair from (a, b) on and before (x, y) fails
    abbrev pub NoneBefore : ℕ → ℕ → Type 0
    NoneBefore x y = (c d : ℕ) → Fails q L c d → (Before (c, d) (a, b) → ⊥) → Before (c, d) (x, y) → ⊥

    pub none_before : NoneBefore a b
    none_before c d f from before = from before

    module _ (n x y second : ℕ) (none : NoneBefore x y) (least : Least (Fails q L x) y n second) where
      -- no failing pair from x has a second node below
      none_till : NoneBefore x second
      none_till c d f from (inl h) = none c d f from (inl h)
      none_till c d f from (inr h) = by (dec_lt d y)
        where
          by : Dec (d < y) → ⊥
          by (yes l) = none c d f from (inr (h.0, l))
          by (no l) = least.none d (omega arith) h.1 (rw h.0 at f)

      -- the pair is found
      pub found : (Before (x, y) (a, b) → ⊥) → x < n → second < n → NextFailing q L n a b x second
      found from lx ls = record { low = omega arith; here = λ l. least.here ls; from = λ l. ahead; none = none_till }
        where
          ahead : Before (x, second) (a, b) → ⊥
          ahead (inl h) = from (inl h)
          ahead (inr h) = from (inr (h.0, omega (arith, least.from, h.1)))

      -- no pair from x fails
      pub next_first : n ≡ length L → n ≤ second → NoneBefore (x + 1) 0
      next_first size ls c d f from (inl h) = by (dec_lt c x)
        where
          by : Dec (c < x) → ⊥
          by (yes l) = none c d f from (inl l)
          by (no l) =
              let e : c ≡ x = omega arith in
              none_till c d f from (inr (e, omega (arith, (failing_in c d f).1)))
      next_first size ls c d f from (inr h) = absurd (omega arith)

  -- FROM THE FIRST PAIR ON: the first failing pair is found, and none exactly if the listing is robust
  module _ (n : ℕ) (size : n ≡ length L) where
    from_start : (a b : ℕ) → Before (a, b) (0, 0) → ⊥
    from_start a b (inl h) = omega arith
    from_start a b (inr h) = omega arith

    pub first_found : (p : Found) → NextIfAny q L n 0 0 (Some p) → First q L (p.first, p.second)
    first_found p h = record { fails = h.1.here h.0; first = λ a b f. h.1.none a b f (from_start a b) }

    pub none_robust : NextIfAny q L n 0 0 None → Robust q L
    none_robust h a b f = h.none a b f (from_start a b) (inl (omega (arith, (failing_in a b f).0)))

    pub robust_told : (r : Option Found) (none : Bool) → is_some r ≡ not none → NextIfAny q L n 0 0 r → Tells none (Robust q L)
    robust_told (Some p) true e h = cc
    robust_told (Some p) false e h = λ r. r p.first p.second (h.1.here h.0)
    robust_told None true e h = none_robust h
    robust_told None false e h = cc
