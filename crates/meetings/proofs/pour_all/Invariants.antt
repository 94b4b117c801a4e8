-- `meetings::pour_all` meets its contract. The loop's invariant: the set has what stands in the rows of the nodes of `u` below `w`.
use Rattle.rows.specs.Inner.Rows.{Members}
use Rattle.meetings.specs.Inner.Meeting.{FromSome}
use Rattle.meetings.proofs.pour_all.Given as goal

abbrev pub invariant-loop-w : goal.invariant-loop-w
invariant-loop-w l = Members l.s l.n (FromSome l.u l.m l.w)
