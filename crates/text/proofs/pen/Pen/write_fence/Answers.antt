-- A fence is written.
use mathlib.Core.Path.{refl}
use Rattle.text.specs.Inner.Pen.{nodes_at, after}
use Rattle.text.proofs.Wrote.{nodes_written}
use Rattle.text.proofs.pen.Pen.write_fence.Goals as goal

pub returns : goal.returns
unfolding nodes_at after
returns c = nodes_written refl (rw c.follow-leads.ensures) c.put_single.ensures
