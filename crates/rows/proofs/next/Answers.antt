-- `rows::next` meets its contract.
use Rattle.rows.proofs.NextNode.{next_low, next_over, next_above}
use Rattle.rows.proofs.next.Goals as goal

pub returns-then-b-ge64 : goal.returns-then-b-ge64
returns-then-b-ge64 c =
    let a = c.args in
    rw c.min.ensures
    (next_above a.w.now a.a a.b a.n c.if-n-b.false c.requires.2 _
    c.if-b-ge64.true c.lowest.ensures)

pub returns-then-r-lt64 : goal.returns-then-r-lt64
returns-then-r-lt64 c =
    let a = c.args in
    rw c.min-then-r-lt64.ensures
    (next_low a.w.now a.a a.b a.n c.if-n-b.false c.requires.2 _
    c.lowest-r.ensures c.if-r-lt64.true)

pub returns : goal.returns
returns c =
    let a = c.args in
    rw c.min-2.ensures
    (next_over a.w.now a.a a.b a.n c.if-n-b.false c.requires.2 _ _
    c.lowest-r.ensures c.if-r-lt64.false c.if-b-ge64.false
    c.lowest-2.ensures)
