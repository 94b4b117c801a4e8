-- A block is passed word by word, up to the `}` of its own.
use Prim.Native.Nat.{◌-◌}
use lib.ListN.{length}
use Rattle.text.specs.Inner.Pen.{Passing}
use Rattle.text.proofs.passing.past_block.Given as goal

abbrev pub invariant-loop-opened : goal.invariant-loop-opened
invariant-loop-opened l = Passing l.fn.on.text l.fn.on l.on l.opened

abbrev pub decreases-loop-opened : goal.decreases-loop-opened
decreases-loop-opened l = length l.fn.on.text - l.on.end
