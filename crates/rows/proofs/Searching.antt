-- A search along a row, node by node: the least that satisfies something whose members all stand in the row.
use mathlib.Core.Path.{◌≡◌, refl}
use Prim.Native.Nat.{ℕ, ◌+◌, ◌≤◌, ◌<◌}
use native.Mathlib.Omega.{arith}
use native.Mathlib.Decide.{dec_lt}
use Rattle.std.specs.Prelude.{Option, Some, None, IsSome}
use Rattle.rows.specs.Inner.Least.{Least, LeastIfAny}

-- nothing from b on and below r satisfies P
pub record Searched (P : ℕ → Type 0) (b n r : ℕ) : Type 0 where
  pub low : r ≤ n
  pub from : b ≤ r
  pub none : (z : ℕ) → b ≤ z → z < r → P z → ⊥

module _ {P Q : ℕ → Type 0} {b n : ℕ} (within : (z : ℕ) → z < n → P z → Q z) where
  pub searched_first : {r : ℕ} → Least Q b n r → Searched P b n r
  searched_first o =
      record { low = o.low; from = o.from; none = λ z from l p. o.none z from l (within z (omega (arith, o.low)) p) }

  -- what the row has not got is not looked for
  pub searched_more : {k r : ℕ} → Searched P b n k → (P k → ⊥) → Least Q (k + 1) n r → Searched P b n r
  searched_more {k} {r} g ne o = record { low = o.low; from = omega (arith, g.from, o.from); none = λ z from l p. by z from l p (dec_lt z k) }
    where
      by : (z : ℕ) → b ≤ z → z < r → P z → Dec (z < k) → ⊥
      by z from l p (yes d) = g.none z from d p
      by z from l p (no d) = this (dec_lt k z)
        where
          this : Dec (k < z) → ⊥
          this (yes m) = o.none z (omega arith) l (within z (omega (arith, o.low)) p)
          this (no m) =
              let e : z ≡ k = omega arith in
              ne (rw e at p)

  -- the same by another property
  pub least_same : {r : ℕ} → ((z : ℕ) → z < n → Q z → P z) → Least Q b n r → Least P b n r
  least_same {r} f o =
      record {
        low = o.low;
        from = o.from;
        here = λ h. f r h (o.here h);
        none = λ z g h p. o.none z g h (within z (omega (arith, o.low)) p);
      }

module _ {P : ℕ → Type 0} {b n r : ℕ} (g : Searched P b n r) where
  pub search_ends : P r → Least P b n r
  search_ends p = record { low = g.low; from = g.from; here = λ h. p; none = g.none }

  pub search_fails : n ≤ r → Least P b n n
  search_fails h =
      record { low = omega arith; from = omega (arith, g.low, g.from); here = λ l. absurd (omega arith); none = λ z a l. g.none z a (omega arith) }

-- WHERE THERE IS ONE, THE LEAST IS FOUND
pub some_found : (P : ℕ → Type 0) (b n : ℕ) (r : Option ℕ) → LeastIfAny P b n r → (z : ℕ) → b ≤ z → z < n → P z → IsSome r
some_found P b n (Some r) o z h l p = refl
some_found P b n None o z h l p = absurd (o.none z h l p)
