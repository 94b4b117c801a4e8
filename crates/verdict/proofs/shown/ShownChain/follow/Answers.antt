-- `ShownChain::follow` meets its contract.
use mathlib.Core.Path.{ap, subst}
use Prim.Native.Nat.{◌*◌, ◌≤◌}
use native.Mathlib.Omega.{arith}
use lib.ListN.{length}
use Rattle.listing.specs.Bytes.{count_n, nodes_of}
use Rattle.verdict.specs.Inner.Showing.{PairOf, Followed}
use Rattle.verdict.proofs.Following.{first_low, second_low, asked, followed}
use Rattle.verdict.proofs.shown.ShownChain.follow.Goals as goal

pub row-ends-requires : goal.row-ends-requires
row-ends-requires c = let k = c.self.invariant in omega (arith, first_low _ _ _ _ _ k, second_low _ _ _ _ _ k)

pub chain-requires : goal.chain-requires
chain-requires c =
    let size = ap (λ (v : PairOf). count_n v.bytes) c.self.view_is in
    let room : 2 * count_n c.self.inside.listing.now ≤ length c.args.out.now = omega arith in
    rw c.nodes.ensures.count.0 (asked _ _ _ _ _ c.self.invariant _ c.row-ends.ensures _ room)

pub returns : goal.returns
returns c =
    let old = c.args.out.now in
    let new = c.chain.new.out in
    subst (λ (v : PairOf). Followed (nodes_of v.bytes) v.first v.second old new c.chain.result) c.self.view_is
    (followed _ _ _ _ _ c.self.invariant _ c.row-ends.ensures old new c.chain.result (rw c.nodes.ensures.count.0 at c.chain.ensures))
