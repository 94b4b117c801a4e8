-- `fence::write`: the length that write answers lies within its buffer.
use Rattle.std.proofs.Common.{arith, sym, length-take-le}
use Rattle.patch.proofs.ReadsBack.{length_within}
use Rattle.fence.proofs.write.Goals as goal

pub slice_bounds-out-end : goal.slice_bounds-out-end
slice_bounds-out-end g c = omega (arith, c.write.auto.out, length_within _ _ _ _ _ _ c.write.ensures c.in-Ok.is)

pub slice_bounds-text-end : goal.slice_bounds-text-end
slice_bounds-text-end g c =
    sym (length-take-le _ c.write.new.out (omega (arith, c.write.auto.out, length_within _ _ _ _ _ _ c.write.ensures c.in-Ok.is)))
