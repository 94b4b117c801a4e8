-- `chains::visit` meets its contract.
use Rattle.chains.proofs.Rounds.{visit_new}
use Rattle.chains.proofs.visit.Goals as goal

pub returns : goal.returns
returns c =
    let p = c.requires in
    visit_new _ _ _ _ p.1 p.2 c.if-d-x.false (rw c.if-not-meet.false at c.meet.ensures)
