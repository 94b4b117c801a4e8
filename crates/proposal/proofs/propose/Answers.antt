-- `proposal::propose` meets its contract.
use mathlib.Core.Path.{refl}
use Rattle.std.proofs.lemmas.Result.{err_from_is_err_and}
use Rattle.reader.proofs.ReadPromise.{read_refused, read_good}
use Rattle.verdict.proofs.Refusing.{question_wrong, question_right}
use Rattle.proposal.proofs.Offering.{ask_1, ask_listing, ask_passes}
use Rattle.proposal.proofs.propose.Goals as goal

pub returns-in_err-question : goal.returns-in_err-question
returns-in_err-question c =
    let p = err_from_is_err_and c.from_residual.result c.from_residual.ensures.1 in
    let wrong = c.in_err-question.ensures in
    rw (p.1, p.2, wrong.0) (ask_1 _ _ _ _ (question_wrong _ wrong.1) refl)

pub returns-in_err-listing : goal.returns-in_err-listing
returns-in_err-listing c =
    let p = err_from_is_err_and c.from_residual-in_err-listing.result c.from_residual-in_err-listing.ensures.1 in
    let right = question_right _ _ c.in_ok-question.ensures in
    rw (p.1, p.2) (ask_listing _ _ _ _ _ _ right (read_refused _ _ _ c.in_err-listing.ensures.says) refl)

pub returns : goal.returns
returns c =
    let right = question_right _ _ c.in_ok-question.ensures in
    let read = (read_good _ _ _ c.in_ok-listing.ensures.says).0 in
    let proposed = rw (c.in_ok-question.ensures, c.in_ok-listing.ensures.same) at c.propose_for.ensures in
    ask_passes _ _ _ _ _ right read proposed
