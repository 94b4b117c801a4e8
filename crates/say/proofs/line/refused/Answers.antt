-- What the search leaves of `say::line::refused`.
use native.Mathlib.Omega.{arith}
use Rattle.lines.proofs.Growing.{both_grow}
use Rattle.say.proofs.Lining.{lined_whole}
use Rattle.say.proofs.line.refused.Goals as goal

pub returns-clause-lined : goal.returns-clause-lined
returns-clause-lined c = lined_whole c.new-line.ensures (both_grow c.put_refusal.ensures.put c.words.ensures) (omega arith)
