-- `meetings::overlaps::fill_row` meets its contract.
use Rattle.listing.specs.Bytes.{nodes_of}
use Rattle.meetings.specs.Inner.Meeting.{Overlapping}
use Rattle.rows.specs.Inner.Growing.{RowGrown}
use Rattle.meetings.proofs.overlaps.fill_row.Given as goal

abbrev pub invariant-loop-b : goal.invariant-loop-b
invariant-loop-b l = RowGrown (Overlapping (nodes_of l.listing)) l.initial.m l.m l.a l.b
