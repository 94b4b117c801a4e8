-- `say::line::places`: the places that are left are those of the bytes that are left.
use lib.ListN.{drop}
use Rattle.lines.proofs.Growing.{Growing}
use Rattle.say.specs.Inner.Answers.{places_of}
use Rattle.say.proofs.line.places.Given as goal

abbrev pub invariant-loop-i : goal.invariant-loop-i
invariant-loop-i l = Growing l.initial.line (places_of 0 l.map) l.line (places_of l.i (drop l.i l.map))
