-- `reach::settled` meets its contract.
use Rattle.listing.specs.Bytes.{nodes_of}
use Rattle.reach.proofs.Sweeps.{Calms}
use Rattle.reach.proofs.settled.Given as goal

abbrev pub invariant-loop-a : goal.invariant-loop-a
invariant-loop-a l = Calms (nodes_of l.listing) l.m l.w l.n l.a
