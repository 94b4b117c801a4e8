-- What the search leaves of `reach::compose_row`.
use Rattle.rows.proofs.Giving.{turn}
use Rattle.reach.proofs.Steps.{then_jump, then_pour}
use Rattle.reach.proofs.compose_row.Goals as goal

pub loop-c-preserved : goal.loop-c-preserved
loop-c-preserved c =
    let t = turn (λ k j. then_jump _ _ _ _ _ _ k j) c.loop-c.invariant c.in-Some.ensures.steps in
    record {
      place = _;
      stands = t.after;
      done = then_pour _ _ _ _ _ _ _ _ c.requires.0 c.requires.2 t.has t.done c.pour.ensures;
    }
