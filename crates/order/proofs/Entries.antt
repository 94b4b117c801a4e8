-- The entries of the need-for-order table, read from their numbers, and the kinds and questions that it has entries for.
use mathlib.Core.Path.{◌≡◌, refl}
use Prim.Native.Nat.{ℕ, ◌<◌}
use native.Mathlib.Omega.{arith}
use lib.Dec.{T, eqb, ltb, eqb→eq, ltb→lt}
use Rattle.listing.specs.Kinds.{KINDS, READ, WRITE, RMW, ACQUIRE, RELEASE, ACQUIRE_PC}
use Rattle.listing.proofs.Bools.{either}
use Rattle.order.specs.Need.{Asked, Entry, need, leave, leave_unless_rmw}
use Rattle.order.specs.Walks.{counts_read, counts_write, is_writer, is_access}
use Rattle.order.specs.Inner.Asking.{asked}
use Rattle.order.specs.declared.question.Question.{Question}
use Rattle.order.specs.declared.question.Question.TheVariants.{ScOnX86, ScOnArmv7, X86OnArmv7, Armv8OnArmv7, ScOnArmv8, X86OnArmv8}

-- the number by which the code's table has an entry
abbrev pub entry_number : Entry → ℕ
entry_number leave = 0
entry_number need = 1
entry_number leave_unless_rmw = 2

pub number_leave : (e : Entry) → entry_number e ≡ 0 → e ≡ leave
number_leave leave h = refl
number_leave need h = absurd (omega arith)
number_leave leave_unless_rmw h = absurd (omega arith)

pub number_need : (e : Entry) → entry_number e ≡ 1 → e ≡ need
number_need leave h = absurd (omega arith)
number_need need h = refl
number_need leave_unless_rmw h = absurd (omega arith)

pub number_unless : (e : Entry) → entry_number e ≡ 2 → e ≡ leave_unless_rmw
number_unless leave h = absurd (omega arith)
number_unless need h = absurd (omega arith)
number_unless leave_unless_rmw h = refl

-- there are three
pub number_below : (e : Entry) → entry_number e < 3
number_below leave = omega arith
number_below need = omega arith
number_below leave_unless_rmw = omega arith

-- AN ACCESS'S KIND IS ONE OF THE TABLE'S
pub kind_below : (k : ℕ) → T (is_access k) → k < KINDS
kind_below k =
    either (counts_read k) (is_writer k)
    (either (eqb k READ) _ (is READ tt) (either (eqb k ACQUIRE) _ (is ACQUIRE tt) (is ACQUIRE_PC tt)))
    (either (counts_write k) _ (either (eqb k WRITE) _ (is WRITE tt) (is RELEASE tt)) (is RMW tt))
  where
    is : (x : ℕ) → T (ltb x KINDS) → T (eqb k x) → k < KINDS
    is x h e = omega (arith, eqb→eq k x e, ltb→lt x KINDS h)

-- A QUESTION OF THE CODE CAN BE ASKED
pub asked_in : (q : Question) → Asked (asked q)
asked_in ScOnX86 = record { least = omega arith; most = omega arith }
asked_in ScOnArmv7 = record { least = omega arith; most = omega arith }
asked_in X86OnArmv7 = record { least = omega arith; most = omega arith }
asked_in Armv8OnArmv7 = record { least = omega arith; most = omega arith }
asked_in ScOnArmv8 = record { least = omega arith; most = omega arith }
asked_in X86OnArmv8 = record { least = omega arith; most = omega arith }
