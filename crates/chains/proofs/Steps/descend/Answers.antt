-- What the search leaves of `chains::Steps::descend`.
use Rattle.chains.proofs.Going.{mid_there, going_more, going_all}
use Rattle.chains.proofs.Steps.descend.Goals as goal

pub unwrap-c-requires : goal.unwrap-c-requires
unwrap-c-requires c = mid_there _ _ _ _ _ _ _ _ _ _ _ c.requires c.loop-i-test.true c.loop-i.invariant c.level-s.ensures _ c.first_mid.ensures

pub loop-i-preserved : goal.loop-i-preserved
loop-i-preserved c =
    going_more _ _ _ _ _ _ _ _ _ _ _ c.requires c.loop-i-test.true c.loop-i.invariant c.level-s.ensures
    _ (rw c.unwrap-c.ensures at c.first_mid.ensures) _ (rw c.unwrap-y.ensures at c.first_end.ensures) _ (rw c.from.ensures at c.write_pair.ensures)

pub returns : goal.returns
returns c = going_all _ _ _ _ _ _ _ _ _ _ c.loop-i-test.false c.loop-i.invariant
