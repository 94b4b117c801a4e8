-- What the search leaves of `say::line::pairs`.
use mathlib.Core.Path.{◌≡◌, refl, ap₂, ◌∙◌}
use mathlib.Core.List.{List, ◌++◌}
use Prim.Native.Nat.{ℕ, ◌/◌}
use lib.ListN.{length}
use Rattle.std.specs.Iterator.Adapters.{take_count, take_source}
use Rattle.std.specs.Slice.Iter.{iter_rest}
use Rattle.std.specs.Simd.{first_chunks}
use Rattle.lines.proofs.Growing.{none_grown, more_grown, all_grown, room_within}
use Rattle.lines.specs.Text.{pair}
use Rattle.say.proofs.Pieces.{pairs_in, in_twos, pair_next, pairs_end}
use Rattle.lines.specs.Inner.Growing.{HasRoom}
use Rattle.say.specs.Inner.Answers.{pairs_of}
use Rattle.say.proofs.Sizes.{pairs_room}
use native.Mathlib.Omega.{arith}
use Rattle.say.proofs.line.pairs.Goals as goal
use Rattle.say.proofs.line.pairs.Goals.{After-from-in-loop-a}

pub loop-a-init : goal.loop-a-init
loop-a-init c =
    let chain = c.args.chain.now in
    let it = c.into_iter-a-iterator.result in
    let all : iter_rest (take_source it) ≡ first_chunks 2 (length chain / 2) chain =
    cc (c.into_iter-a-iterator.ensures.into_iter_gives, c.take-a-items.ensures.source, c.iter.ensures.rest, c.as_chunks.ensures.front) in
    let count : take_count it ≡ c.args.count = cc (c.into_iter-a-iterator.ensures.into_iter_gives, c.take-a-items.ensures.count) in
    (tt, tt, none_grown _ (ap₂ pairs_in count all ∙ in_twos c.args.count (length chain / 2) chain refl))

-- the pair at hand, and what is left behind it
abbrev left : After-from-in-loop-a → List ℕ
left m = pairs_in (take_count m.next.new.self) (iter_rest (take_source m.next.new.self))

next : (m : After-from-in-loop-a)
    → pairs_in (take_count m.loop-a.a-iterator) (iter_rest (take_source m.loop-a.a-iterator)) ≡ pair m.from.result m.from-in-loop-a.result ++ left m
next m = pair_next _ _ m.from.ensures m.from-in-loop-a.ensures m.in-Some.ensures.steps.0 m.in-Some.ensures.steps.1

pub pair-requires : goal.pair-requires
pair-requires c =
    let m = (goal.at.pair-requires c).After-from-in-loop-a in
    let whole : HasRoom c.args.line.now (pairs_of c.args.count c.args.chain.now) = omega (arith, pairs_room c.args.count c.args.chain.now c.type_inv.chain) in
    room_within (pair c.from.result c.from-in-loop-a.result) (left m) whole c.loop-a.invariant.2 (next m)

pub loop-a-preserved : goal.loop-a-preserved
loop-a-preserved c = (tt, tt, more_grown c.loop-a.invariant.2 (next (goal.at.loop-a-preserved c).After-from-in-loop-a) c.pair.ensures)

pub returns : goal.returns
returns c =
    let put = all_grown c.loop-a.invariant.2 (pairs_end _ _ (λ h. (c.in-None.ensures.steps h).0)) in
    record { put = put; upper_bound = omega (arith, put.put.goes_on, pairs_room c.args.count c.args.chain.now c.type_inv.chain) }
