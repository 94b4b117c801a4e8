-- `say::judge` meets its contract.
use native.Mathlib.Omega.{arith}
use Rattle.say.proofs.Judging.{judge_line}
use Rattle.say.proofs.judge.Goals as goal

pub returns : goal.returns
returns c =
    let asked = c.in-Some in
    let line = judge_line c.args.input.now _ _ asked.bytes.now _ _ c.judge-answer.result asked.ensures.cases.0 c.from.ensures (omega arith)
    c.judge-answer.ensures in
    record { judge_line_promise = (_, line, c.judged.ensures.lined); prefix_len = c.judged.ensures.prefix_len }
