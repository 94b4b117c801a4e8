-- `proposal::mark_of` meets its contract.
use mathlib.Core.Path.{sym}
use Rattle.listing.proofs.Nodes.{nodes_length}
use Rattle.proposal.proofs.Drawing.{mark}
use Rattle.proposal.proofs.mark_of.Goals as goal

pub returns : goal.returns
returns c = rw (c.from.ensures, c.is_some.ensures) (mark _ _ _ _ (sym (nodes_length _)) c.second.result c.second.ensures)
