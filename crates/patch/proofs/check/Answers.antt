-- `patch::check` meets its contract.
use mathlib.Core.Path.{sym, ◌∙◌}
use Rattle.std.proofs.Common.{rules}
use Rattle.std.proofs.lemmas.Result.{err_from_is_err_and}
use Rattle.reader.specs.Read.{Admitted}
use Rattle.reader.proofs.Admitted.{admitted_whole}
use Rattle.reader.proofs.ReadPromise.{read_refused, read_good}
use Rattle.patch.proofs.MapRules.{by_listing, by_map}
use Rattle.patch.proofs.check.Goals as goal
use Rattle.patch.proofs.check.Goals.{In_ok-listing}

admitted : (c : In_ok-listing) → Admitted c.args.bytes.now
admitted c = (read_good _ _ _ c.in_ok-listing.ensures.says).0

pub returns-in_err-listing-clause-checked : goal.returns-in_err-listing-clause-checked
returns-in_err-listing-clause-checked c =
    let p = err_from_is_err_and c.from_residual.result c.from_residual.ensures.1 in
    rw (p.1, p.2) (sym (by_listing _ _ _ _ (read_refused _ _ _ c.in_err-listing.ensures.says)))

pub returns-clause-checked : goal.returns-clause-checked
returns-clause-checked c =
    let read = admitted (goal.at.returns-clause-checked c).In_ok-listing in
    (rw c.in_ok-listing.ensures.same at c.check_map.ensures) ∙ sym (by_map _ _ read)

pub returns-clause-whole : goal.returns-clause-whole
returns-clause-whole c = let whole = admitted_whole _ (admitted (goal.at.returns-clause-whole c).In_ok-listing) in search rules
