-- `meetings::overlaps::overlap_rows` meets its contract.
use Rattle.listing.specs.Bytes.{count_n, nodes_of}
use Rattle.meetings.specs.Inner.Meeting.{Overlapping}
use Rattle.rows.specs.Inner.Growing.{RowsDone}
use Rattle.meetings.proofs.overlaps.overlap_rows.Given as goal

abbrev pub invariant-loop-a : goal.invariant-loop-a
invariant-loop-a l = RowsDone (Overlapping (nodes_of l.listing)) l.m l.a (count_n l.listing)
