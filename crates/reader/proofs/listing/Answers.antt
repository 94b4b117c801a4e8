-- `reader::listing` meets its contract.
use mathlib.Core.Path.{◌≡◌, sym, ap₂, ◌∙◌}
use Prim.Native.Nat.{ℕ}
use native.Mathlib.Omega.{arith}
use Rattle.std.proofs.lemmas.Result.{err_from_is_err_and}
use Rattle.listing.specs.Answer.{done}
use Rattle.listing.specs.Bytes.{count_n, count_f}
use Rattle.listing.specs.Form.{Formed}
use Rattle.reader.proofs.Admitted.{formed_housed}
use Rattle.reader.proofs.Reading.{form_refused, form_good, by_form, by_dead, by_none}
use Rattle.reader.proofs.listing.Goals as goal
use Rattle.reader.proofs.listing.Goals.{In_ok-form}

-- the form is right
good : (c : In_ok-form)
    → let bytes = c.args.bytes.now in
    let counts = c.in_ok-form.field-0 in
    Formed bytes × (counts.nodes ≡ count_n bytes) × (counts.routines ≡ count_f bytes)
good c = form_good _ _ _ c.in_ok-form.ensures.says

pub returns-in_err-form-clause-says : goal.returns-in_err-form-clause-says
returns-in_err-form-clause-says c =
    let p = err_from_is_err_and c.from_residual.result c.from_residual.ensures.1 in
    rw (p.1, p.2) (by_form _ _ _ (form_refused _ _ _ c.in_err-form.ensures.says))

pub first_dead-requires : goal.first_dead-requires
first_dead-requires c = rw c.new-listing.ensures (formed_housed _ (good (goal.at.first_dead-requires c).In_ok-form).0)

pub returns-in-Some-clause-says : goal.returns-in-Some-clause-says
returns-in-Some-clause-says c =
    let dead = rw c.new-listing.ensures at c.in-Some.ensures in
    by_dead _ (good (goal.at.returns-in-Some-clause-says c).In_ok-form).0 _ dead.1 dead.0

pub returns-in-None-clause-says : goal.returns-in-None-clause-says
returns-in-None-clause-says c =
    let none = rw c.new-listing.ensures at c.in-None.ensures in
    let g = good (goal.at.returns-in-None-clause-says c).In_ok-form in
    rw c.new-listing.ensures (ap₂ (λ (n f : ℕ). done n f 0) (sym g.1) (sym g.2) ∙ c.in_ok-form.ensures.says ∙ by_none _ g.0 _ none (omega arith))
