-- `reader::search::enter` meets its contract.
use native.Mathlib.Omega.{arith}
use mathlib.Core.Path.{◌∙◌}
use Rattle.listing.proofs.Nodes.{nodes_length}
use Rattle.reader.proofs.Finding.{seen_first}
use Rattle.reader.proofs.search.enter.Goals as goal

pub returns : goal.returns
returns c =
    let housed = c.requires.0 in
    let e = c.from-r.ensures ∙ c.routine.ensures in
    seen_first _ _ _ _ c.requires.3 _ _ c.requires.2 (omega (arith, nodes_length c.args.listing.now, c.requires.1))
    (rw e at c.if-has.ensures)
    (λ x h. omega (arith, housed.low x (omega (arith, c.requires.1))))
    (rw e at c.put.ensures) c.put-2.ensures
