-- A loop's node is written, and the pen goes into its body.
use Rattle.text.proofs.Passes.{forked_past}
use Rattle.text.proofs.Blocks.{loop_entered}
use Rattle.text.proofs.pen.Pen.write_loop.Goals as goal

pub returns : goal.returns
returns c =
    let body = forked_past c.fork-on.ensures c.past_block.ensures in
    loop_entered _ body.same (rw (c.follow-leads.ensures, body.text, c.passed.ensures)) c.within-self.ensures c.put_plain.ensures
