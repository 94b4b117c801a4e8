-- What the search leaves of `reader::search::follow`.
use native.Mathlib.Omega.{arith}
use mathlib.Core.Path.{◌∙◌, sym}
use Rattle.listing.specs.Bytes.{nodes_of}
use Rattle.listing.proofs.Nodes.{nodes_length}
use Rattle.reader.proofs.Hunting.{undone_less, hunt_starts, hunt_takes, hunt_ends}
use Rattle.reader.proofs.search.follow.Goals as goal

pub loop-a-init : goal.loop-a-init
loop-a-init c =
    let listing = c.args.listing.now in
    let few = c.nodes-n.ensures.count in
    let starts = hunt_starts (nodes_of listing) _ few.1 (few.0 ∙ sym (nodes_length listing)) _ _ (rw few.0 c.requires.1) c.row-waiting.ensures in
    (few.0, few.1, starts)

pub trail-requires : goal.trail-requires
trail-requires c =
    let inv = c.loop-a.invariant in
    let listing = c.args.listing.now in
    let next = rw c.in-Some.is at c.next.ensures in
    let takes = hunt_takes (nodes_of listing) _ inv.1 (inv.0 ∙ sym (nodes_length listing)) _ _ _ _ next.0 (next.1.here next.0) c.take_out.ensures inv.2 in
    (c.requires.0, rw inv.0 at takes)

pub loop-a-smaller : goal.loop-a-smaller
loop-a-smaller c =
    let inv = c.loop-a.invariant in
    let next = rw c.in-Some.is at c.next.ensures in
    let due = next.1.here next.0 in
    undone_less _ _ _ _ _ _ _ inv.1 next.0 (inv.2.due _ (omega (arith, inv.1, next.0)) due) due c.take_out.ensures c.trail.ensures.1

pub returns : goal.returns
returns c =
    let inv = c.loop-a.invariant in
    let listing = c.args.listing.now in
    let next = rw c.in_default.is at c.next.ensures in
    let ends = hunt_ends (nodes_of listing) _ inv.1 (inv.0 ∙ sym (nodes_length listing)) _ _ inv.2 (λ z h. next.none z (omega arith) h) in
    rw inv.0 at ends
