-- All words of a text are written, one after the other.
use Prim.Native.Nat.{◌-◌}
use lib.ListN.{length}
use Rattle.text.specs.Inner.Writer.{TextWrites}
use Rattle.text.proofs.writer.write_text.Given as goal

abbrev pub invariant-loop-word : goal.invariant-loop-word
invariant-loop-word l = TextWrites l.text l.fn.out l.out l.reader l.pen

abbrev pub decreases-loop-word : goal.decreases-loop-word
decreases-loop-word l = length l.text - l.reader.end
