-- The second nodes of a row of suspects, one by one: none that was given fails yet.
use mathlib.Core.Path.{◌≡◌}
use mathlib.Core.List.{List}
use Prim.Native.Nat.{ℕ, ◌+◌, ◌≤◌, ◌<◌}
use native.Mathlib.Omega.{arith}
use native.Mathlib.Decide.{dec_lt}
use Rattle.listing.specs.Node.{Listing}
use Rattle.order.specs.Verdict.{Fails}
use Rattle.rows.specs.Inner.Least.{Least}
use Rattle.rows.specs.Inner.Rows.{Has}
use Rattle.rows.proofs.Giving.{Skips}

-- no node from b on and below k is the second of a failing pair from a
abbrev pub NoneYet : ℕ → Listing → ℕ → ℕ → ℕ → ℕ → Type 0
NoneYet q L a b n k = (b ≤ k) × ((z : ℕ) → b ≤ z → z < k → z < n → Fails q L a z → ⊥)

module _ {q : ℕ} {L : Listing} {a b n : ℕ} (c : List ℕ) (row : (z : ℕ) → z < n → Fails q L a z → Has c a z) where
  -- what the row has not got does not fail
  pub none_between : Skips c a (NoneYet q L a b n)
  none_between k j low out done = (omega (arith, done.0), λ z from l small f. by z from l small f (dec_lt z k))
    where
      by : (z : ℕ) → b ≤ z → z < j → z < n → Fails q L a z → Dec (z < k) → ⊥
      by z from l small f (yes d) = done.1 z from d small f
      by z from l small f (no d) = out z (omega arith) l (row z small f)

-- nor does a node that was given and tried
pub none_more : {q : ℕ} {L : Listing} {a b n : ℕ} (x : ℕ) → NoneYet q L a b n x → (Fails q L a x → ⊥) → NoneYet q L a b n (x + 1)
none_more {q} {L} {a} {b} {n} x done ne = (omega (arith, done.0), λ z from l small f. by z from l small f (dec_lt z x))
  where
    by : (z : ℕ) → b ≤ z → z < x + 1 → z < n → Fails q L a z → Dec (z < x) → ⊥
    by z from l small f (yes d) = done.1 z from d small f
    by z from l small f (no d) =
        let e : z ≡ x = omega arith in
        ne (rw e at f)

-- THE LEAST SECOND NODE, or none
pub least_second : {q : ℕ} {L : Listing} {a b n : ℕ} (x : ℕ) → NoneYet q L a b n x → x < n → Fails q L a x → (x < n) × Least (Fails q L a) b n x
least_second x done l f =
    (l, record { low = omega arith; from = done.0; here = λ h. f; none = λ z from k g. done.1 z from k (omega arith) g })

pub no_second : {q : ℕ} {L : Listing} {a b n : ℕ} → NoneYet q L a b n n → Least (Fails q L a) b n n
no_second {n = n} done =
    record { low = omega arith; from = done.0; here = λ h. absurd (omega arith); none = λ z from k g. done.1 z from k k g }
