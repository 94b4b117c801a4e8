-- What the search leaves of `say::line::told`.
use mathlib.Core.Path.{◌≡◌, ap, ◌∙◌}
use native.Mathlib.Omega.{arith}
use Rattle.std.specs.Prelude.{Result, Ok}
use Rattle.verdict.specs.declared.Verdict.{Verdict}
use Rattle.verdict.specs.declared.Verdict.TheVariants.{Robust}
use Rattle.say.specs.Inner.Answers.{told_by}
use Rattle.say.proofs.Lining.{lined_as, lined_whole}
use Rattle.say.proofs.line.told.Goals as goal

pub returns-in-Ok-Robust-clause-lined : goal.returns-in-Ok-Robust-clause-lined
returns-in-Ok-Robust-clause-lined g c =
    let a = c.args in
    let verdict : c.in-Ok-Robust.field-0 ≡ Robust = rw c.in-Ok-Robust.is at c.in-Ok-Robust.field-0-is in
    let is : a.answer ≡ Ok Robust = c.in-Ok-Robust.is ∙ ap (λ (v : Verdict). Ok v) verdict in
    lined_as (λ r. told_by g.R.Refuses.told a.robust.now r a.chain.now) is (lined_whole c.new-line.ensures c.words.ensures (omega arith))
