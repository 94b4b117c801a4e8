-- `text::writer::write_text` meets its contract: each word that is read is written.
use Rattle.grammar.proofs.Kept.{looked}
use Rattle.text.proofs.Writing.{text_starts, text_ends, word_written}
use Rattle.text.proofs.writer.write_text.Goals as goal

pub loop-word-init : goal.loop-word-init
loop-word-init c = rw c.new-reader.ensures text_starts

pub returns-in-End : goal.returns-in-End
returns-in-End c = let so = c.loop-word.invariant in text_ends so (looked so.text c.look.ensures) c.in-End.is

pub loop-word-preserved : goal.loop-word-preserved
loop-word-preserved c =
    let so = c.loop-word.invariant in
    word_written so (looked so.text c.look.ensures) c.in_default.not-End c.write.ensures
