-- `patch::judge_patch` meets its contract.
use mathlib.Core.Path.{refl, sym}
use Rattle.std.proofs.lemmas.Result.{err_from_is_err_and}
use Rattle.verdict.proofs.Refusing.{question_wrong, question_right}
use Rattle.patch.proofs.MapRules.{passes_fits}
use Rattle.patch.proofs.JudgeRules.{wrongly_asked, not_patched, chain_too_short, told_with_map}
use Rattle.patch.proofs.judge_patch.Goals as goal

pub returns-in_err-question : goal.returns-in_err-question
returns-in_err-question c =
    let p = err_from_is_err_and c.from_residual.result c.from_residual.ensures.1 in
    let wrong = c.in_err-question.ensures in
    rw (p.1, p.2, wrong.0) (wrongly_asked _ _ _ _ _ (question_wrong _ wrong.1) refl)

pub returns-in_err-check : goal.returns-in_err-check
returns-in_err-check c =
    let p = err_from_is_err_and c.from_residual-in_err-check.result c.from_residual-in_err-check.ensures.1 in
    let right = question_right _ _ c.in_ok-question.ensures in
    rw (p.1, p.2) (not_patched _ _ _ _ _ right _ _ (sym c.in_err-check.ensures.checked) refl)

pub returns-then-chain-lt-CHAIN_BYTES : goal.returns-then-chain-lt-CHAIN_BYTES
returns-then-chain-lt-CHAIN_BYTES c =
    let right = question_right _ _ c.in_ok-question.ensures in
    chain_too_short _ _ _ _ _ right (sym c.in_ok-check.ensures.checked) c.if-chain-lt-CHAIN_BYTES.true refl

pub judge_checked-requires : goal.judge_checked-requires
judge_checked-requires c =
    let fits = passes_fits _ _ (sym c.in_ok-check.ensures.checked) in
    (rw c.new.ensures fits, c.if-chain-lt-CHAIN_BYTES.false)

pub returns : goal.returns
returns c =
    let right = question_right _ _ c.in_ok-question.ensures in
    let told = rw (c.in_ok-question.ensures, c.new.ensures) at c.judge_checked.ensures in
    told_with_map _ _ _ _ _ right _ (sym c.in_ok-check.ensures.checked) c.if-chain-lt-CHAIN_BYTES.false told
