-- `verdict::judge` meets its contract.
use Rattle.std.proofs.lemmas.Result.{err_from_is_err_and}
use Rattle.reader.specs.Read.{Admitted}
use Rattle.reader.proofs.ReadPromise.{read_good, read_refused}
use Rattle.verdict.proofs.Refusing.{question_wrong, question_right, judge_1, judge_listing, judge_16, judge_passes, judge_refused, judge_told}
use Rattle.verdict.proofs.judge.Goals as goal
use Rattle.verdict.proofs.judge.Goals.{In_ok-listing}

admitted : (c : In_ok-listing) → Admitted c.args.bytes.now
admitted c = (read_good _ _ _ c.in_ok-listing.ensures.says).0

pub returns-in_err-question : goal.returns-in_err-question
returns-in_err-question c =
    let p = err_from_is_err_and c.from_residual.result c.from_residual.ensures.1 in
    let wrong = c.in_err-question.ensures in
    rw (p.1, p.2, wrong.0) (judge_refused _ _ _ 1 0 (judge_1 _ _ _ (question_wrong _ wrong.1)))

pub returns-in_err-listing : goal.returns-in_err-listing
returns-in_err-listing c =
    let p = err_from_is_err_and c.from_residual-in_err-listing.result c.from_residual-in_err-listing.ensures.1 in
    let right = question_right _ _ c.in_ok-question.ensures in
    rw (p.1, p.2) (judge_refused _ _ _ _ _ (judge_listing _ _ _ _ _ right (read_refused _ _ _ c.in_err-listing.ensures.says)))

pub returns-then-chain-lt-CHAIN_BYTES : goal.returns-then-chain-lt-CHAIN_BYTES
returns-then-chain-lt-CHAIN_BYTES c =
    let right = question_right _ _ c.in_ok-question.ensures in
    let read = admitted (goal.at.returns-then-chain-lt-CHAIN_BYTES c).In_ok-listing in
    judge_refused _ _ _ 16 0 (judge_16 _ _ c.args.chain.now right read c.if-chain-lt-CHAIN_BYTES.true)

pub returns : goal.returns
returns c =
    let right = question_right _ _ c.in_ok-question.ensures in
    let read = admitted (goal.at.returns c).In_ok-listing in
    let told = rw (c.in_ok-question.ensures, c.in_ok-listing.ensures.same) at c.decide.ensures in
    judge_told _ _ _ _ _ (judge_passes _ _ _ right read c.if-chain-lt-CHAIN_BYTES.false) told
