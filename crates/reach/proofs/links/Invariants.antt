-- `reach::links` meets its contract.
use Rattle.listing.specs.Bytes.{nodes_of}
use Rattle.order.specs.Walks.{Succ}
use Rattle.rows.specs.Inner.Growing.{RowsDone}
use Rattle.reach.proofs.links.Given as goal

abbrev pub invariant-loop-a : goal.invariant-loop-a
invariant-loop-a l = RowsDone (Succ (nodes_of l.listing)) l.w l.a l.n
