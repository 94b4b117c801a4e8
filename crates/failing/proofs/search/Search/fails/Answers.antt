-- What the search leaves of `Search::fails`: the pairs that the rows of an RMW inside decide.
use mathlib.Core.Bool.{not}
use mathlib.Core.Path.{ap, ap₂, ◌∙◌, subst}
use Prim.Native.Nat.{◌<◌}
use native.Mathlib.Omega.{arith}
use Rattle.listing.specs.Bytes.{count_n, nodes_of}
use Rattle.listing.proofs.Bools.{no_fails}
use Rattle.order.specs.Chains.{surely}
use Rattle.order.specs.Verdict.{Fails}
use Rattle.rows.specs.Inner.Rows.{Tells}
use Rattle.failing.specs.Inner.Failing.{AskedOf}
use Rattle.failing.proofs.Needing.{suspected, unless_inside}
use Rattle.failing.proofs.search.Search.fails.Goals as goal

pub returns-in-IfRmwInside : goal.returns-in-IfRmwInside
returns-in-IfRmwInside c =
    let a = c.args.a in
    let b = c.args.b in
    let bytes = c.self.inside.listing.now in
    let size = ap (λ (v : AskedOf). count_n v.bytes) c.self.view_is in
    let la : a < count_n bytes = omega arith in
    let lb : b < count_n bytes = omega arith in
    let suspect = suspected c.self.invariant a b lb c.has.result (ap not c.if-not-has.false) c.has.ensures in
    let apart = no_fails c.if-surely.false (c.surely.ensures ∙ ap₂ surely c.location.ensures.0 c.location-2.ensures.0) in
    let entry = rw (c.kind.ensures, c.kind-2.ensures) at c.in-IfRmwInside.ensures in
    subst (λ (v : AskedOf). Tells c.has-in-IfRmwInside.result (Fails v.question (nodes_of v.bytes) a b)) c.self.view_is
    (unless_inside _ _ a b suspect apart _ (count_n bytes) c.self.invariant.whole.few la lb c.self.invariant.exchanged entry _
    c.has-in-IfRmwInside.ensures)
