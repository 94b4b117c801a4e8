-- `ShownChain::show` meets its contract.
use mathlib.Core.Path.{ap}
use native.Mathlib.Omega.{arith}
use Rattle.verdict.specs.Inner.Showing.{PairOf}
use Rattle.verdict.proofs.Following.{first_low, second_low, seen}
use Rattle.verdict.proofs.Showing.{few, showed}
use Rattle.verdict.proofs.shown.ShownChain.show.Goals as goal

pub overflow_cast-out : goal.overflow_cast-out
overflow_cast-out c = omega (arith, first_low _ _ _ _ _ c.self.invariant)

pub overflow_cast-out-2 : goal.overflow_cast-out-2
overflow_cast-out-2 c = omega (arith, second_low _ _ _ _ _ c.self.invariant)

pub overflow_add-result : goal.overflow_add-result
overflow_add-result c =
    omega (arith, few _ _ _ _ _ _ (seen c.self.view_is c.self.invariant).whole c.follow.ensures)

pub returns : goal.returns
returns c =
    let first = ap (λ (v : PairOf). v.first) c.self.view_is in
    let second = ap (λ (v : PairOf). v.second) c.self.view_is in
    showed _ _ _ _ _ first second _ _ _ (omega arith) c.follow.ensures
