-- `chains::level` meets its contract.
use Prim.Native.Nat.{◌≤◌, ◌-◌}
use Rattle.rows.specs.Inner.Rows.{Members}
use Rattle.chains.specs.Inner.Levels.{AtDistance}
use Rattle.chains.proofs.level.Given as goal

abbrev pub invariant-loop-y : goal.invariant-loop-y
invariant-loop-y l = (l.y ≤ l.n) × Members l.s l.y (AtDistance l.d l.r)

abbrev pub decreases-loop-y : goal.decreases-loop-y
decreases-loop-y l = l.n - l.y
