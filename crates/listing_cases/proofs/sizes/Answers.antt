-- `listing_cases::sizes`: the part that it lends is within the array.
use Rattle.std.proofs.Common.{arith, sym, length-take-le}
use Rattle.listing_cases.proofs.sizes.Goals as goal

pub slice_bounds-case-end-2 : goal.slice_bounds-case-end-2
slice_bounds-case-end-2 g c = sym (length-take-le 775 c.put_plain.new.out (omega (arith, c.put_plain.ensures)))
