-- The start of the search for distances, node by node: 0 at a goal, and no distance elsewhere.
use mathlib.Core.Path.{◌≡◌}
use mathlib.Core.List.{List}
use Prim.Native.Nat.{ℕ, ◌+◌, ◌≤◌, ◌<◌}
use native.Mathlib.Omega.{arith}
use native.Mathlib.Decide.{dec_lt}
use lib.ListN.{length, get_or, set, length-set}
use lib.Seq.{get_or-set_same, get_or-set_other}
use Rattle.chains.specs.Inner.Levels.{Starts, Started}
use Rattle.chains.proofs.Unset.{unset_le, unset_lt}

-- the nodes below k have what they start with
pub record StartedBelow (n : ℕ) (t d : List ℕ) (k : ℕ) : Type 0 where
  pub low : k ≤ 128
  pub long : length d ≡ 128
  pub at : (x : ℕ) → x < k → Starts n t x (get_or d x 0)

pub started_more : (n : ℕ) (t d : List ℕ) (k v : ℕ) → k < 128 → StartedBelow n t d k → Starts n t k v → StartedBelow n t (set d k v) (k + 1)
started_more n t d k v hk g q = record { low = omega arith; long = simp length-set g.long; at = λ x h. by x h (dec_lt x k) }
  where
    by : (x : ℕ) → x < k + 1 → Dec (x < k) → Starts n t x (get_or (set d k v) x 0)
    by x h (yes l) = rw (get_or-set_other d k x v 0 (omega arith)) (g.at x l)
    by x h (no l) =
        let e : x ≡ k = omega arith in
        rw (e, get_or-set_same d k v 0 (omega (arith, g.long))) q

pub started : (n : ℕ) (t d : List ℕ) (k : ℕ) → StartedBelow n t d k → 128 ≤ k → Started n t d
started n t d k g h =
    let long = g.long in
    record {
      at = λ x hx. g.at x (omega arith);
      few = omega (arith, unset_le d);
      fewer = λ x hx ne. omega (arith, unset_lt d x (omega arith) ne);
    }
