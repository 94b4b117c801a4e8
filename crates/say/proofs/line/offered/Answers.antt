-- What the search leaves of `say::line::offered`.
use native.Mathlib.Omega.{arith}
use Rattle.lines.proofs.Decimal.{next_room}
use Rattle.lines.proofs.Growing.{both_grow}
use Rattle.say.proofs.Lining.{lined_whole}
use Rattle.say.proofs.line.offered.Goals as goal

pub returns : goal.returns
returns c =
    lined_whole c.new-line.ensures
    (both_grow c.words.ensures (both_grow c.next.ensures (both_grow c.places.ensures.put c.words-2.ensures)))
    (omega (arith, next_room))
