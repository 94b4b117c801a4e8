-- `reader::search::leave` meets its contract.
use native.Mathlib.Omega.{arith}
use Rattle.reader.proofs.search.leave.Goals as goal

pub put-requires : goal.put-requires
put-requires c = let next = c.step.ensures.fresh c.in-Some.y c.in-Some.is in (omega arith, omega (arith, next))
