-- `reach::sweep` meets its contract.
use Rattle.listing.specs.Bytes.{count_n, nodes_of}
use Rattle.reach.specs.Inner.Links.{Begun}
use Rattle.reach.proofs.sweep.Given as goal

abbrev pub invariant-loop-a : goal.invariant-loop-a
invariant-loop-a l = Begun (nodes_of l.listing) l.m l.w (count_n l.listing)
