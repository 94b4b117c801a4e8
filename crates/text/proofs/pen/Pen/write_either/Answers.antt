-- An either's node is written, and the pen goes into its first block.
use Rattle.text.proofs.Passes.{forked_past, past_on}
use Rattle.text.proofs.Blocks.{either_entered}
use Rattle.text.proofs.pen.Pen.write_either.Goals as goal

pub returns : goal.returns
returns c =
    let first = forked_past c.fork-on.ensures c.past_block.ensures in
    let second = past_on first.text c.past_block-2.ensures in
    let other = rw (← c.passed-other.ensures) at first.same in
    let meet = rw (← c.passed-other.ensures, ← c.passed-meet.ensures) at second.same in
    either_entered c.args.self.now other meet c.within-self.ensures c.put_plain.ensures
