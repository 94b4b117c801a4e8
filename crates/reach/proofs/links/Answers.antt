-- What the search leaves of `reach::links`.
use mathlib.Core.Path.{sym, ◌∙◌}
use Rattle.listing.specs.Bytes.{nodes_of}
use Rattle.listing.proofs.Nodes.{nodes_length}
use Rattle.rows.proofs.Growing.{rows_more}
use Rattle.reach.proofs.Loading.{row_linked}
use Rattle.reach.proofs.links.Goals as goal

pub loop-a-preserved : goal.loop-a-preserved
loop-a-preserved c =
    let bytes = c.args.listing.now in
    let n = c.nodes-n.ensures.count in
    let row = row_linked (nodes_of bytes) _ _ _ _ _ n.1 (nodes_length bytes ∙ sym n.0) c.loop-a-test.true
    (rw c.first.ensures at c.link.ensures) (rw c.second.ensures at c.link-in-loop-a.ensures) in
    rows_more _ _ _ _ _ n.1 c.loop-a.invariant row
