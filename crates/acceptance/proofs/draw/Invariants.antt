-- `acceptance::draw` meets its contract. The loop's invariant: with the nodes that are left the map comes to be that of all.
use mathlib.Core.Path.{◌≡◌}
use lib.ListN.{length, drop}
use Rattle.acceptance.proofs.Drawing.{Left}
use Rattle.acceptance.proofs.draw.Given as goal

abbrev pub invariant-loop-node : goal.invariant-loop-node
invariant-loop-node l = (length l.map ≡ length l.initial.map) × Left l.nodes (drop l.node-index l.nodes) l.map
