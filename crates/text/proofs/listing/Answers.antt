-- `text::listing` keeps its promise: the refusals in their order, then heading and nodes.
use native.Mathlib.Omega.{arith}
use lib.ListN.{length}
use Rattle.std.proofs.lemmas.Result.{err_from_is_err_and}
use Rattle.text.proofs.Fits.{Fitting, counts_fit}
use Rattle.text.proofs.Service.{bad_typed, refused_typed, full_typed}
use Rattle.text.proofs.listing.Goals as goal
use Rattle.text.proofs.listing.Goals.{In_ok-admit}

-- the counts fit
fits : (c : In_ok-admit) → Fitting c.in_ok-size.size (length c.args.out.now)
fits c = counts_fit _ _ c.in_ok-admit.ensures

pub returns-in_err-size : goal.returns-in_err-size
returns-in_err-size c =
    let p = err_from_is_err_and c.from_residual.result c.from_residual.ensures.1 in
    rw (p.1, p.2) (bad_typed _ c.in_err-size.ensures)

pub returns-in_err-admit : goal.returns-in_err-admit
returns-in_err-admit c =
    let p = err_from_is_err_and c.from_residual-in_err-admit.result c.from_residual-in_err-admit.ensures.1 in
    rw (p.1, p.2) (refused_typed _ c.in_ok-size.ensures _ c.in_err-admit.ensures)

pub put_heading-requires : goal.put_heading-requires
put_heading-requires c = let f = fits (goal.at.put_heading-requires c).In_ok-admit in (omega arith, omega (arith, f.long))

pub overflow_mul-result : goal.overflow_mul-result
overflow_mul-result c = let f = fits (goal.at.overflow_mul-result c).In_ok-admit in omega (arith, f.nodes)

pub overflow_add-result : goal.overflow_add-result
overflow_add-result c = let f = fits (goal.at.overflow_add-result c).In_ok-admit in omega (arith, f.nodes)

pub returns : goal.returns
returns c =
    full_typed _ c.in_ok-size.ensures c.in_ok-admit.ensures c.low.ensures c.low-2.ensures c.put_heading.ensures c.write_text.ensures
