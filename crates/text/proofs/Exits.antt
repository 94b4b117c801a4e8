-- The exits as one number: a block that is entered is the innermost one, and those around it stay.
use mathlib.Core.Path.{◌≡◌, ◌∙◌}
use Prim.Native.Nat.{ℕ, zero, suc, ◌+◌, ◌-◌, ◌*◌, ◌/◌, ◌%◌, ◌<◌, ◌≤◌}
use native.Mathlib.Omega.{arith}
use borrow.Author.Tests.{ne_eqb, lt-ltb}
use Rattle.text.specs.Inner.Pen.{exit_of, inside}

-- the exits that leave room for d levels more
pub limit : ℕ → ℕ
limit zero = 18446744073709551616
limit (suc d) = limit d / 256

limit_most : (d : ℕ) → limit d ≤ 18446744073709551616
unfolding limit
limit_most zero = omega arith
limit_most (suc d) = let h = limit_most d in omega arith

pub limit_eight : 0 < limit 8
unfolding limit
limit_eight = omega arith

module _ (k : ℕ) where
  exit_some : (k % 256 ≡ 0 → ⊥) → exit_of k ≡ k % 256 - 1
  unfolding exit_of
  exit_some h = rw (ne_eqb (k % 256) 0 h)

module _ (d k x : ℕ) (room : k < limit (suc d)) (byte : x < 256) where
  entered : inside k x ≡ 256 * k + x
  unfolding inside limit
  entered = let h = limit_most d in rw (lt-ltb k 72057594037927936 (omega arith)) (omega arith)

  pub inside_room : inside k x < limit d
  unfolding limit
  inside_room = rw entered (omega arith)

  pub inside_top : inside k x % 256 ≡ x
  inside_top = rw entered (omega arith)

  pub inside_outer : inside k x / 256 ≡ k
  inside_outer = rw entered (omega arith)

  -- THE END OF A BLOCK LEADS WHERE IT WAS SAID AS IT WAS ENTERED
  pub inside_exit : 0 < x → exit_of (inside k x) ≡ x - 1
  inside_exit some = let top = inside_top in exit_some (inside k x) (λ z. omega arith) ∙ omega arith
