-- Which row of judge's table applies, check by check; the parts serve the other services too.
use mathlib.Core.Path.{◌≡◌, refl, sym, ap, ◌∙◌, subst}
use mathlib.Core.Bool.{Bool, true, false, cond}
use mathlib.Core.List.{List, [], ◌∷◌, ◌++◌}
use Prim.Native.Nat.{ℕ, ◌≤◌, ◌<◌}
use lib.ListN.{length}
use lib.Dec.{leb}
use borrow.Author.Tests.{lt-ltb, le-ltb, leb-true, not-false}
use Rattle.listing.specs.Bytes.{nodes_of}
use Rattle.listing.specs.Answer.{Answer, refusal}
use Rattle.listing.specs.Rules.{Rule, rule, Refusal, passed, refused, first_of}
use Rattle.listing.proofs.Bools.{and_both}
use Rattle.listing.proofs.Table.{pass, stop}
use Rattle.order.specs.Need.{QUESTIONS, Asked}
use Rattle.order.specs.Inner.Asking.{asked}
use Rattle.order.specs.declared.question.Question.{Question}
use Rattle.order.specs.declared.question.Question.TheVariants.{ScOnX86, ScOnArmv7, X86OnArmv7, Armv8OnArmv7, ScOnArmv8, X86OnArmv8}
use Rattle.reader.specs.Read.{read_rules, Admitted}
use Rattle.verdict.specs.Judging.{wrong_question, question_rules, buffer_rules, CHAIN, judge_rules, Told, Judging, JudgePromise}

-- ── A table of one row ──────────────────────────────────────────────────────
pub row_applies : (b : Bool) (k p : ℕ) → b ≡ true → first_of (rule b k p ∷ []) ≡ refused k p
row_applies b k p e = ap (λ (t : Bool). cond t (refused k p) passed) e

pub row_passes : (b : Bool) (k p : ℕ) → b ≡ false → first_of (rule b k p ∷ []) ≡ passed
row_passes b k p e = ap (λ (t : Bool). cond t (refused k p) passed) e

-- ── Rules 1 and 16, before and after other rules ────────────────────────────
pub question_stops : (q : ℕ) (rs : List Rule) → wrong_question q ≡ true → first_of (question_rules q ++ rs) ≡ refused 1 0
question_stops q rs e = stop (question_rules q) rs 1 0 (row_applies (wrong_question q) 1 0 e)

pub question_passes : (q : ℕ) (rs : List Rule) → wrong_question q ≡ false → first_of (question_rules q ++ rs) ≡ first_of rs
question_passes q rs e = pass (question_rules q) rs (row_passes (wrong_question q) 1 0 e)

pub buffer_stops : (size : ℕ) (buffer : List ℕ) → length buffer < size → first_of (buffer_rules size buffer) ≡ refused 16 0
buffer_stops size buffer h = row_applies _ 16 0 (lt-ltb (length buffer) size h)

pub buffer_passes : (size : ℕ) (buffer : List ℕ) → size ≤ length buffer → first_of (buffer_rules size buffer) ≡ passed
buffer_passes size buffer h = row_passes _ 16 0 (le-ltb (length buffer) size h)

-- ── Judge's table ───────────────────────────────────────────────────────────
module _ (q : ℕ) (s old : List ℕ) where
  pub judge_1 : wrong_question q ≡ true → first_of (judge_rules q s old) ≡ refused 1 0
  unfolding judge_rules
  judge_1 e = question_stops q (read_rules s ++ buffer_rules CHAIN old) e

  pub judge_listing : (k p : ℕ) → wrong_question q ≡ false → first_of (read_rules s) ≡ refused k p → first_of (judge_rules q s old) ≡ refused k p
  unfolding judge_rules
  judge_listing k p e h = question_passes q (read_rules s ++ buffer_rules CHAIN old) e ∙ stop (read_rules s) (buffer_rules CHAIN old) k p h

  past_listing : wrong_question q ≡ false → Admitted s → first_of (judge_rules q s old) ≡ first_of (buffer_rules CHAIN old)
  unfolding judge_rules
  past_listing e h = question_passes q (read_rules s ++ buffer_rules CHAIN old) e ∙ pass (read_rules s) (buffer_rules CHAIN old) h

  pub judge_16 : wrong_question q ≡ false → Admitted s → length old < CHAIN → first_of (judge_rules q s old) ≡ refused 16 0
  judge_16 e h l = past_listing e h ∙ buffer_stops CHAIN old l

  pub judge_passes : wrong_question q ≡ false → Admitted s → CHAIN ≤ length old → first_of (judge_rules q s old) ≡ passed
  judge_passes e h l = past_listing e h ∙ buffer_passes CHAIN old l

  -- A REFUSAL keeps judge's promise, and so does a verdict where nothing is refused
  pub judge_refused : (k p : ℕ) → first_of (judge_rules q s old) ≡ refused k p → JudgePromise q s old old (refusal k p)
  judge_refused k p e = subst (λ (f : Refusal). Judging f q (nodes_of s) old old (refusal k p)) (sym e) (refl, refl)

  pub judge_told : (new : List ℕ) (r : Answer) → first_of (judge_rules q s old) ≡ passed → Told q (nodes_of s) old new r → JudgePromise q s old new r
  judge_told new r e t = subst (λ (f : Refusal). Judging f q (nodes_of s) old new r) (sym e) t

-- ── The question ────────────────────────────────────────────────────────────
-- a number that rule 1 lets pass asks a question
question_in : (n : ℕ) → wrong_question n ≡ false → Asked n
unfolding wrong_question
question_in n e =
    let h = and_both (leb 1 n) (leb n QUESTIONS) (not-false _ e) in
    record { least = leb-true 1 n h.0; most = leb-true n QUESTIONS h.1 }

-- RULE 1 REFUSES WHAT ASKS NOTHING, and nothing else
pub question_wrong : (n : ℕ) → (Asked n → ⊥) → wrong_question n ≡ true
question_wrong n h = by (wrong_question n) refl
  where
    by : (b : Bool) → wrong_question n ≡ b → wrong_question n ≡ true
    by true e = e
    by false e = absurd (h (question_in n e))

asked_right : (q : Question) → wrong_question (asked q) ≡ false
unfolding wrong_question
asked_right ScOnX86 = refl
asked_right ScOnArmv7 = refl
asked_right X86OnArmv7 = refl
asked_right Armv8OnArmv7 = refl
asked_right ScOnArmv8 = refl
asked_right X86OnArmv8 = refl

pub question_right : (n : ℕ) (q : Question) → asked q ≡ n → wrong_question n ≡ false
question_right n q e = subst (λ (k : ℕ). wrong_question k ≡ false) e (asked_right q)
