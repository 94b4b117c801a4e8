-- The block reader and the item reader meet their contracts: each way out is a law of the grammar. Unread bytes with depth left fall.
use mathlib.Core.Path.{◌≡◌}
use Prim.Native.Nat.{◌+◌, ◌-◌}
use lib.ListN.{length}
use Rattle.words.specs.declared.Word.TheVariants as said
use Rattle.grammar.specs.Inner.Reader.{BlockGoes}
use Rattle.grammar.proofs.reader.Reader.+block_item.Given as goal

-- unread bytes with depth left
abbrev pub decreases-block : goal.decreases-block
decreases-block l = let at = l.self.now in length at.text - at.end + l.depth

abbrev pub decreases-item : goal.decreases-item
decreases-item l = let at = l.self.now in length at.text - at.start + l.depth

-- the items lead on
abbrev pub invariant-block-loop-self : goal.invariant-block-loop-self
invariant-block-loop-self l = BlockGoes l.fn.self.text l.depth l.fn.self l.self l.word × (l.word ≡ said.Close → ⊥)

abbrev pub decreases-block-loop-self : goal.decreases-block-loop-self
decreases-block-loop-self l = length l.fn.self.text - l.self.start
