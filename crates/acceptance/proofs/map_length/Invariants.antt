-- `acceptance::map_length` meets its contract. The loop's invariant: with the nodes that are left the length comes to be that of all.
use mathlib.Core.Path.{◌≡◌}
use Prim.Native.Nat.{◌≤◌}
use lib.ListN.{drop}
use Rattle.acceptance.specs.Accept.{map_length}
use Rattle.acceptance.proofs.map_length.Given as goal

abbrev pub invariant-loop-node : goal.invariant-loop-node
invariant-loop-node l = (l.length ≤ 256) × (map_length l.length (drop l.node-index l.nodes) ≡ map_length l.n l.nodes)
