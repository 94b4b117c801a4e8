-- `grammar::whole` meets its contract: part after part.
use Prim.Native.Nat.{◌-◌}
use lib.ListN.{length}
use Rattle.grammar.specs.Inner.Reader.{TextGoes}
use Rattle.grammar.proofs.whole.Given as goal

abbrev pub invariant-loop-reader : goal.invariant-loop-reader
invariant-loop-reader l = TextGoes l.text l.reader l.parts

abbrev pub decreases-loop-reader : goal.decreases-loop-reader
decreases-loop-reader l = length l.text - l.reader.end
