-- `proposal::offer` meets its contract.
use mathlib.Core.Path.{refl}
use native.Mathlib.Omega.{arith}
use Rattle.proposal.proofs.Offering.{offer_15, offer_16, offered}
use Rattle.proposal.proofs.offer.Goals as goal

pub returns-then-nodes-gt-NODES : goal.returns-then-nodes-gt-NODES
returns-then-nodes-gt-NODES c =
    let a = c.args in
    offer_15 a.listing.now a.marks.now a.map.now _ (omega arith) refl

pub returns-then-map-n : goal.returns-then-map-n
returns-then-map-n c =
    let a = c.args in
    offer_16 a.listing.now a.marks.now a.map.now _ (omega arith) (omega arith) refl

pub returns : goal.returns
returns c =
    let a = c.args in
    offered a.listing.now a.marks.now a.map.now _ (omega arith) _ (omega arith) c.requires c.places-places.ensures.0 c.copy.ensures
