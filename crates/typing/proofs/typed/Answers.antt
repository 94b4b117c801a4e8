-- `typing::typed` meets its contract.
use mathlib.Core.Path.{refl, sym}
use native.Mathlib.Omega.{arith}
use lib.Seq.{length-take-le}
use Rattle.say.proofs.Lining.{lined_whole, line_counts}
use Rattle.typing.proofs.Writing.{Shows, shows, tells}
use Rattle.typing.proofs.typed.Goals as goal
use Rattle.typing.proofs.typed.Goals.{In-Ok}

-- a listing was written
written : (w : In-Ok) → Shows w.args.text.now w.listing.new.out w.in-Ok.length
written w = shows _ _ _ refl w.listing.result _ w.listing.ensures w.in-Ok.is

pub slice_bounds-words-end : goal.slice_bounds-words-end
slice_bounds-words-end c = sym (length-take-le _ c.listing.new.out (written (goal.at.slice_bounds-words-end c).In-Ok).within)

pub returns-in-Ok : goal.returns-in-Ok
returns-in-Ok c =
    let shown = written (goal.at.returns-in-Ok c).In-Ok in
    let line = lined_whole c.new-line.ensures c.words.ensures (omega (arith, length-take-le _ c.listing.new.out shown.within, shown.short)) in
    record { typed_promise = (_, shown.output, line); prefix_len = line_counts line }

pub returns-in-Err : goal.returns-in-Err
returns-in-Err c =
    let said = tells _ _ _ refl c.listing.result _ c.listing.ensures c.in-Err.is in
    record { typed_promise = (_, said, c.refused_for.ensures.lined); prefix_len = c.refused_for.ensures.prefix_len }
