-- What the search leaves of `listing::form`.
use mathlib.Core.Path.{ap, ◌∙◌, refl}
use Rattle.listing.specs.Bytes.{count_n}
use Rattle.std.proofs.lemmas.Result.{err_from_is_err_and}
use Rattle.listing.proofs.Forming.{heading_whole, by_heading, start, node_refuses, node_passes, all_read}
use Rattle.listing.proofs.rules.form.Goals as goal

pub returns-in_err-heading-clause-says : goal.returns-in_err-heading-clause-says
returns-in_err-heading-clause-says c =
    let p = err_from_is_err_and c.from_residual.result c.from_residual.ensures.1 in
    rw (p.1, p.2) (by_heading _ _ _ c.in_err-heading.ensures)

pub new-listing-requires : goal.new-listing-requires
new-listing-requires c = heading_whole _ c.in_ok-heading.ensures

pub loop-i-init : goal.loop-i-init
loop-i-init c = (c.new-listing.ensures, start _ _ refl c.in_ok-heading.ensures)

pub returns-in_err-record-clause-says : goal.returns-in_err-record-clause-says
returns-in_err-record-clause-says c =
    let p = err_from_is_err_and c.from_residual-in_err-record.result c.from_residual-in_err-record.ensures.1 in
    let size = c.nodes-i-end.ensures.count.0 ∙ ap count_n c.new-listing.ensures in
    let refused = rw c.new-listing.ensures at c.in_err-record.ensures in
    rw (p.1, p.2) (node_refuses _ _ _ _ _ c.loop-i.invariant.1 (rw size at c.loop-i-test.true) refused)

pub loop-i-preserved : goal.loop-i-preserved
loop-i-preserved c =
    let size = c.nodes-i-end.ensures.count.0 ∙ ap count_n c.new-listing.ensures in
    (c.new-listing.ensures, node_passes _ _ _ c.loop-i.invariant.1 (rw size at c.loop-i-test.true) (rw c.new-listing.ensures at c.in_ok-record.ensures))

pub returns-clause-says : goal.returns-clause-says
returns-clause-says c =
    let size = c.nodes-i-end.ensures.count.0 ∙ ap count_n c.new-listing.ensures in
    rw (c.counts.ensures.0, c.counts.ensures.1, c.new-listing.ensures) (all_read _ _ _ c.loop-i.invariant.1 (rw size at c.loop-i-test.false))
