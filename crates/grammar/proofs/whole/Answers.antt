-- `grammar::whole` meets its contract: part after part.
use Rattle.std.specs.Prelude.{Ok, Err}
use Rattle.grammar.specs.Tree.{DEPTH}
use Rattle.grammar.specs.Inner.Reader.{Looked}
use Rattle.grammar.proofs.Kept.{looked, block_read}
use Rattle.grammar.proofs.Parts.{text_begins, text_bad, text_ends, part_bad, part_read}
use Rattle.grammar.proofs.whole.Goals as goal
use Rattle.grammar.proofs.whole.Goals.{After-look}

-- the next word of the text was looked at
word : (c : After-look) → Looked c.args.text.now c.loop-reader.reader c.look.new.self c.look.result
word c = looked c.loop-reader.invariant.of c.look.ensures

pub loop-reader-init : goal.loop-reader-init
loop-reader-init c = rw c.new-reader.ensures (text_begins _)

pub returns-in-End : goal.returns-in-End
returns-in-End c =
    let look = word (goal.at.returns-in-End c).After-look in
    rw c.passed.ensures (text_ends _ _ _ c.loop-reader.invariant _ _ look c.in-End.is)

pub returns-in-Err : goal.returns-in-Err
returns-in-Err c =
    let look = word (goal.at.returns-in-Err c).After-look in
    let read = block_read c.args.text.now c.look.new.self c.block.new.self look.text (Err _) DEPTH c.in-Err.ensures in
    rw c.bad.ensures (part_bad _ _ _ c.loop-reader.invariant _ _ look c.in-Routine.is c.block.new.self read)

pub loop-reader-preserved : goal.loop-reader-preserved
loop-reader-preserved c =
    let look = word (goal.at.loop-reader-preserved c).After-look in
    let read = block_read c.args.text.now c.look.new.self c.block.new.self look.text (Ok tt) DEPTH c.in-Ok.ensures in
    part_read _ _ _ c.loop-reader.invariant _ _ look c.in-Routine.is c.block.new.self read

pub returns-in_default : goal.returns-in_default
returns-in_default c =
    let look = word (goal.at.returns-in_default c).After-look in
    rw c.bad-in_default.ensures (text_bad _ _ _ c.loop-reader.invariant _ _ look c.in_default.not-End c.in_default.not-Routine)
