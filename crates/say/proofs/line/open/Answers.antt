-- What the search leaves of `say::line::open`.
use native.Mathlib.Omega.{arith}
use Rattle.lines.proofs.Decimal.{next_room}
use Rattle.lines.proofs.Growing.{both_grow}
use Rattle.say.proofs.Lining.{lined_whole}
use Rattle.say.proofs.line.open.Goals as goal

pub returns : goal.returns
returns c =
    let rest = both_grow c.next-3.ensures (both_grow c.pairs.ensures.put c.words-2.ensures) in
    lined_whole c.new-line.ensures (both_grow c.words.ensures (both_grow c.next.ensures (both_grow c.next-2.ensures rest))) (omega (arith, next_room))
