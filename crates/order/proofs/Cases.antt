-- The rehearsed listings have the answers that the rules give: one table, one statement, computed listing by listing.
use mathlib.Core.List.{List, ◌++◌}
use mathlib.Core.Bool.{Bool}
use lib.Dec.{T}
use Rattle.order.specs.Rows.{All}
use Rattle.order.specs.Patched.{patched}
use Rattle.order.specs.Cases.{Case, lettered, written, joined, cases, Right}
use Rattle.order.specs.Armv8.{armv8}
use Rattle.order.proofs.Lists.{every, in_all, all_in, all_append}
use Rattle.order.proofs.Tests.{every_checked}
use Rattle.order.proofs.Check.{check, checked}

abbrev right? : Case → Bool
right? c = check c.question (patched c.listing c.map) c.verdict

-- every row of a listing passes, and of every listing
abbrev Passes : List Case → Type 0
Passes cs = T (every right? cs)

abbrev Pass : List (List Case) → Type 0
Pass = All Passes

-- rows that pass the check are right
all_right : (rows : List (List Case)) → Pass rows → All (All Right) rows
all_right rows t =
    in_all (All Right) rows
    (λ cs i. (every_checked right? Right (λ c. checked c.question (patched c.listing c.map) c.verdict) cs).0
    (all_in Passes rows t cs i))

-- what is computed: each passes
lettered_pass : Pass lettered
lettered_pass = (tt, (tt, (tt, (tt, (tt, (tt, (tt, (tt, (tt, (tt, (tt, (tt, (tt, tt)))))))))))))

written_pass : Pass written
written_pass = (tt, (tt, (tt, (tt, (tt, (tt, (tt, (tt, (tt, (tt, (tt, tt)))))))))))

joined_pass : Pass joined
joined_pass = (tt, (tt, (tt, (tt, (tt, tt)))))

cases_pass : Pass cases
cases_pass = all_append Passes lettered (written ++ joined) lettered_pass (all_append Passes written joined written_pass joined_pass)

armv8_pass : Pass armv8
armv8_pass = (
  tt,
  (
    tt,
    (
      tt,
      (
        tt,
        (
          tt,
          (
            tt,
            (
              tt,
              (
                tt,
                (
                  tt,
                  (
                    tt,
                    (
                      tt,
                      (
                        tt,
                        (
                          tt,
                          (
                            tt,
                            (
                              tt,
                              (tt, (tt, (tt, (tt, (tt, (tt, (tt, (tt, (tt, (tt, (tt, (tt, (tt, tt))))))))))))),
                            ),
                          ),
                        ),
                      ),
                    ),
                  ),
                ),
              ),
            ),
          ),
        ),
      ),
    ),
  ),
)

pub armv8_right : All (All Right) armv8
armv8_right = all_right armv8 armv8_pass

-- EVERY ROW OF THE TABLE IS RIGHT
pub cases_right : All (All Right) cases
cases_right = all_right cases cases_pass
