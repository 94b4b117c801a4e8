-- `say::line::pairs`: the pairs that are left are those of the twos that are left.
use Rattle.std.specs.Iterator.Adapters.{take_count, take_source}
use Rattle.std.specs.Slice.Iter.{iter_rest}
use Rattle.lines.proofs.Growing.{Growing}
use Rattle.say.specs.Inner.Answers.{pairs_of}
use Rattle.say.proofs.Pieces.{pairs_in}
use Rattle.say.proofs.line.pairs.Given as goal

abbrev pub invariant-loop-a : goal.invariant-loop-a
invariant-loop-a l =
    (goal.iterator-loop-a).can_next l.a-iterator
    × (goal.iterator-loop-a).is_finite l.a-iterator
    × Growing l.initial.line (pairs_of l.count l.chain) l.line (pairs_in (take_count l.a-iterator) (iter_rest (take_source l.a-iterator)))
