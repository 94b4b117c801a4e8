-- `reach::walks` meets its contract.
use Rattle.listing.specs.Bytes.{count_n, nodes_of}
use Rattle.reach.specs.Inner.Links.{Begun}
use Rattle.reach.proofs.walks.Given as goal

abbrev pub invariant-loop : goal.invariant-loop
invariant-loop l = Begun (nodes_of l.listing) l.m l.w (count_n l.listing)
