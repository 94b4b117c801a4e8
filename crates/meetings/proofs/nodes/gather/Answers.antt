-- What the search leaves of `meetings::nodes::gather`.
use native.Mathlib.Omega.{arith}
use Prim.Native.Nat.{◌<◌}
use mathlib.Core.Path.{◌≡◌, subst, sym, ◌∙◌}
use lib.Dec.{T}
use Rattle.listing.specs.Bytes.{count_n}
use Rattle.rows.proofs.Growing.{members_put, members_skip}
use Rattle.meetings.proofs.nodes.gather.Goals as goal
use Rattle.meetings.proofs.nodes.gather.Goals.{then-belongs, else-belongs}

pub loop-i-preserved : goal.loop-i-preserved
loop-i-preserved g c = λ P t.
    let said = rw c.kind.ensures at (t _ _ c.belongs.ensures) in
    let low : c.loop-i.i < 128 = omega arith in
    let done = c.loop-i.invariant P t in
    elim c.if-belongs.branch [
      | then-belongs q ↦ rw q.s-is (members_put _ _ _ _ low done (subst T (sym q.if-belongs.true ∙ said) tt) q.put.ensures)
      | else-belongs q ↦ rw q.s-is (members_skip _ _ _ done (λ h. subst T (sym said ∙ q.if-belongs.false) h))
    ]

pub returns-clause-members : goal.returns-clause-members
returns-clause-members g c = λ P t.
    let e : c.loop-i.i ≡ count_n c.args.listing.now = omega arith in
    rw e at (c.loop-i.invariant P t)
