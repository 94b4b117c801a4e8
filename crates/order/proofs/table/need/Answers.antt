-- `order::table::need` meets its contract: the table's rule is one test over all of its entries, which is computed.
use mathlib.Core.Path.{◌≡◌, sym, ◌∙◌}
use Prim.Native.Nat.{ℕ, suc, ◌+◌, ◌*◌, ◌-◌, ◌/◌, ◌%◌, ◌<◌}
use native.Mathlib.Omega.{arith}
use lib.ListN.{get_or}
use Rattle.listing.specs.Kinds.{KINDS}
use Rattle.listing.specs.Inner.Coded.{number_of}
use Rattle.listing.specs.declared.kind.Kind.{Kind}
use Rattle.order.specs.Need.{QUESTIONS, Asked, Entry, question, entry}
use Rattle.order.specs.Inner.Asking.{asked}
use Rattle.order.specs.declared.question.Question.{Question}
use Rattle.order.specs.declared.table.TheConstants.{NEED}
use Rattle.order.proofs.Entries.{asked_in, entry_number, number_leave, number_need, number_unless, number_below}
use Rattle.order.proofs.Tables.{right_at}
use Rattle.order.proofs.table.need.Goals as goal

-- how many entries there are
abbrev ENTRIES : ℕ
ENTRIES = QUESTIONS * KINDS * KINDS

-- the rule of the entry at place i: its question, first kind and second kind are i's digits
ruled : ℕ → ℕ
ruled i = entry_number (entry (question (suc (i / 100))) (i / 10 % 10) (i % 10))

-- the place of a question's entry for two kinds
place : (q j k : ℕ) → Asked q → j < KINDS → k < KINDS → ruled (((q - 1) * KINDS + j) * KINDS + k) ≡ entry_number (entry (question q) j k)
unfolding ruled
place q j k h hj hk =
    let i = ((q - 1) * KINDS + j) * KINDS + k in
    let e : suc (i / 100) ≡ q = omega (arith, h.least) in
    let f : i / 10 % 10 ≡ j = omega arith in
    let g : i % 10 ≡ k = omega arith in
    λ t. entry_number (entry (question (e t)) (f t) (g t))

-- the rule's entry for what the code was asked
abbrev the_entry : Question → Kind → Kind → Entry
the_entry q j k = entry (question (asked q)) (number_of j) (number_of k)

-- the table holds that entry, at the place that the code makes of the question's number and the kinds'
held : (q : Question) (j k : Kind) (i : ℕ) → number_of j < KINDS → number_of k < KINDS
    → i ≡ ((asked q - 1) * KINDS + number_of j) * KINDS + number_of k → get_or NEED i 0 ≡ entry_number (the_entry q j k)
unfolding ruled
held q j k i hj hk e =
    let h = asked_in q in
    rw e
    (right_at ruled ENTRIES NEED tt (((asked q - 1) * KINDS + number_of j) * KINDS + number_of k) (omega (arith, h.least, h.most))
    ∙ place (asked q) (number_of j) (number_of k) h hj hk)

pub returns-in-0 : goal.returns-in-0
returns-in-0 c =
    let a = c.args in
    let i = (c.from.result * KINDS + c.from-2.result) * KINDS + c.from-3.result in
    let e = held a.question a.first a.second i c.requires.0 c.requires.1 (omega arith) in
    sym (number_leave _ (sym e ∙ c.in-0.is))

pub returns-in-1 : goal.returns-in-1
returns-in-1 c =
    let a = c.args in
    let i = (c.from.result * KINDS + c.from-2.result) * KINDS + c.from-3.result in
    let e = held a.question a.first a.second i c.requires.0 c.requires.1 (omega arith) in
    sym (number_need _ (sym e ∙ c.in-1.is))

pub returns-in_default : goal.returns-in_default
returns-in_default c =
    let a = c.args in
    let i = (c.from.result * KINDS + c.from-2.result) * KINDS + c.from-3.result in
    let e = held a.question a.first a.second i c.requires.0 c.requires.1 (omega arith) in
    sym (number_unless _ (omega (arith, e, number_below (the_entry a.question a.first a.second))))
