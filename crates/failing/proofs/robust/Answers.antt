-- `failing::robust` meets its contract.
use mathlib.Core.Path.{sym}
use Rattle.listing.proofs.Nodes.{nodes_length}
use Rattle.failing.proofs.Searching.{robust_told}
use Rattle.failing.proofs.robust.Goals as goal

pub returns : goal.returns
returns c =
    robust_told _ _ _ (sym (nodes_length c.args.listing.now)) c.next.result _ c.is_none.ensures (rw c.new.ensures at c.next.ensures)
