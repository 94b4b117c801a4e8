-- What the search leaves of `reach::sweep`.
use native.Mathlib.Omega.{arith}
use mathlib.Core.Path.{refl}
use mathlib.Core.Logic.{inl, inr}
use Prim.Native.Nat.{◌<◌, ◌-◌}
use Rattle.listing.specs.Bytes.{count_n, nodes_of}
use Rattle.listing.proofs.Nodes.{nodes_length}
use Rattle.reach.proofs.Sweeps.{begun_pull}
use Rattle.reach.proofs.sweep.Goals as goal

pub loop-a-preserved : goal.loop-a-preserved
loop-a-preserved c =
    let bytes = c.args.listing.now in
    let n = c.nodes-n.ensures in
    let h : c.loop-a.a - 1 < count_n bytes = omega arith in
    let pulled = begun_pull (nodes_of bytes) c.args.m.now (count_n bytes) n.whole.few (nodes_length bytes) in
    let one = pulled _ _ _ _ h (inl refl) c.loop-a.invariant (rw (n.count.0, c.first.ensures) at c.pull.ensures) in
    pulled _ _ _ _ h (inr refl) one (rw (n.count.0, c.second.ensures) at c.pull-in-loop-a.ensures)
