-- What the search leaves of `fencing::places`.
use mathlib.Core.Path.{◌∙◌}
use native.Mathlib.Omega.{arith}
use Rattle.fencing.proofs.Marks.{count_next, places_end}
use Rattle.fencing.proofs.places.Goals as goal

pub loop-byte-preserved : goal.loop-byte-preserved
loop-byte-preserved c =
    let at = c.loop-byte in
    let next = count_next _ at.byte-index at.count _ c.loop-byte-test.true c.from-count.ensures in
    (omega (arith, next.0, at.invariant.0), next.1 ∙ at.invariant.1)

pub returns : goal.returns
returns c =
    let at = c.loop-byte in
    let none_left = places_end _ at.byte-index c.loop-byte-test.false in
    (omega (arith, none_left, at.invariant.1), omega (arith, at.invariant.0, at.auto.byte-index-end))
