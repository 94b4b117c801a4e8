-- `proposal::draw` meets its contract. The loop's invariant: the bytes below `a` are their nodes' marks.
use mathlib.Core.Path.{◌≡◌}
use lib.ListN.{length}
use Rattle.listing.specs.Bytes.{nodes_of}
use Rattle.proposal.specs.Inner.Marking.{Marked}
use Rattle.proposal.proofs.draw.Given as goal

abbrev pub invariant-loop-a : goal.invariant-loop-a
invariant-loop-a l = (length l.marks ≡ length l.initial.marks) × Marked l.search.question (nodes_of l.search.bytes) l.marks l.a
