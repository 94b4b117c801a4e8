-- `patch::check_map` meets its contract, row by row.
use mathlib.Core.Path.{sym, ◌∙◌}
use native.Mathlib.Omega.{arith}
use Rattle.fencing.specs.Marks.{marks_of}
use Rattle.patch.proofs.MapRules.{wrong_position, length_wrong, bytes_wrong, map_right, fit_stops, fit_passes}
use Rattle.patch.proofs.check_map.Goals as goal

pub returns-then-map-nodes : goal.returns-then-map-nodes
returns-then-map-nodes c = sym (length_wrong _ _ _ (λ e. c.if-map-nodes.true (e ∙ sym c.nodes-nodes.ensures.count.0)))

pub returns-in-Some : goal.returns-in-Some
returns-in-Some c = sym (bytes_wrong _ _ _ (c.if-map-nodes.false ∙ c.nodes-nodes.ensures.count.0) _ (wrong_position c.args.map.now _ c.in-Some.ensures))

pub returns-then-nodes-places-gt-NODES : goal.returns-then-nodes-places-gt-NODES
returns-then-nodes-places-gt-NODES c =
    let a = c.args in
    let right = map_right _ _ _ (c.if-map-nodes.false ∙ c.nodes-nodes.ensures.count.0) (wrong_position c.args.map.now _ c.in_default.ensures) in
    sym (right ∙ fit_stops a.listing.now (marks_of a.map.now) (omega arith))

pub returns : goal.returns
returns c =
    let a = c.args in
    let read = map_right _ _ _ (c.if-map-nodes.false ∙ c.nodes-nodes.ensures.count.0) (wrong_position c.args.map.now _ c.in_default.ensures) in
    sym (read ∙ fit_passes a.listing.now (marks_of a.map.now) (omega arith))
