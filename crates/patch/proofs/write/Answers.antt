-- `patch::write` meets its contract.
use mathlib.Core.Path.{refl, sym}
use Rattle.std.proofs.lemmas.Result.{err_from_is_err_and}
use Rattle.patch.proofs.MapRules.{passes_fits}
use Rattle.patch.proofs.WriteRules.{refused_early, passed_early}
use Rattle.patch.proofs.write.Goals as goal

pub returns-in_err-check : goal.returns-in_err-check
returns-in_err-check c =
    let p = err_from_is_err_and c.from_residual.result c.from_residual.ensures.1 in
    rw (p.1, p.2) (refused_early _ _ _ _ _ _ (sym c.in_err-check.ensures.checked) refl)

pub write_checked-requires : goal.write_checked-requires
write_checked-requires c = rw c.new.ensures (passes_fits _ _ (sym c.in_ok-check.ensures.checked))

pub returns : goal.returns
returns c =
    passed_early _ _ _ _ _ (sym c.in_ok-check.ensures.checked) (rw c.new.ensures at c.write_checked.ensures)
