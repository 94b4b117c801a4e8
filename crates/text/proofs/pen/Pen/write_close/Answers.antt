-- The end of a block is written.
use Rattle.text.proofs.Blocks.{part_closed, second_closed, loop_closed, first_closed}
use Rattle.text.proofs.pen.Pen.write_close.Goals as goal

pub returns-then-self-eq0 : goal.returns-then-self-eq0
returns-then-self-eq0 c = part_closed _ c.if-self-eq0.true

pub returns-then-top-next : goal.returns-then-top-next
returns-then-top-next c = second_closed _ c.if-top-next.true c.follow-leads.ensures c.put_single.ensures

pub returns-then-top-next-2 : goal.returns-then-top-next-2
returns-then-top-next-2 c = loop_closed _ c.if-self-eq0.false c.if-top-next.false c.if-top-next-2.true

pub returns-else-top-next-2 : goal.returns-else-top-next-2
returns-else-top-next-2 c = first_closed _ c.if-self-eq0.false c.if-top-next.false c.if-top-next-2.false
