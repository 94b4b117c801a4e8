-- `say::propose` meets its contract.
use native.Mathlib.Omega.{arith}
use Rattle.say.proofs.Proposing.{propose_line, no_places}
use Rattle.say.proofs.propose.Goals as goal

pub returns : goal.returns
returns c =
    let asked = c.in-Some in
    let of = propose_line _ (omega arith) (no_places 128) c.args.input.now _ _ asked.bytes.now in
    let line = of _ c.propose-answer.result asked.ensures.cases.0 c.from.ensures c.propose-answer.ensures in
    record { propose_line_promise = (_, line, c.proposed.ensures.lined); prefix_len = c.proposed.ensures.prefix_len }
