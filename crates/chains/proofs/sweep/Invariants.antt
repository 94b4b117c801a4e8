-- `chains::sweep` meets its contract.
use Prim.Native.Nat.{◌≤◌, ◌-◌}
use Rattle.chains.specs.Inner.Levels.{Into, Swept}
use Rattle.chains.proofs.sweep.Given as goal

abbrev pub invariant-loop-x : goal.invariant-loop-x
invariant-loop-x l = (l.x ≤ l.n) × Swept (Into l.w l.s) 0 l.x l.initial.d l.d l.r l.found

abbrev pub decreases-loop-x : goal.decreases-loop-x
decreases-loop-x l = l.n - l.x
