-- `meetings::overlaps::overlap_row` meets its contract.
use mathlib.Core.Path.{sym, subst}
use Prim.Native.Nat.{ℕ}
use lib.Dec.{T}
use Rattle.listing.specs.Bytes.{nodes_of}
use Rattle.order.specs.Walks.{loc_at}
use Rattle.order.specs.Chains.{overlap}
use Rattle.rows.proofs.Growing.{grown_copy}
use Rattle.meetings.proofs.overlaps.overlap_row.Goals as goal

pub returns-in-Some : goal.returns-in-Some
returns-in-Some c =
    let L = nodes_of c.args.listing.now in
    let b = rw c.in-Some.is at c.twin.ensures in
    grown_copy _ _ _ _ _ _ c.requires.1 b.0 c.requires.2 (λ y. subst (λ (x : ℕ). T (overlap x (loc_at L y))) b.1)
    (λ y. subst (λ (x : ℕ). T (overlap x (loc_at L y))) (sym b.1)) c.or_row.ensures
