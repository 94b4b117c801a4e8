-- Judging the written listing is judging with the map, in the old numbers.
use mathlib.Core.Logic.{◌↔◌}
use mathlib.Core.List.{List}
use Prim.Native.Nat.{ℕ, ◌≤◌}
use lib.ListN.{length}
use Rattle.listing.specs.Node.{Listing}
use Rattle.order.specs.Chains.{Ends, Chain}
use Rattle.order.specs.Verdict.{Verdict, robust, opened, Judged}
use Rattle.order.specs.Patched.{Marks, patched}
use Rattle.order.specs.With.{JudgedWith}
use Rattle.order.proofs.Patch.{Links}
use Rattle.order.proofs.Renaming.{chain_kept}
use Rattle.order.proofs.PatchWalk.{patched_renamed}
use Rattle.order.proofs.PatchFails.{patched_fails, fails_patched}

module _ (q : ℕ) (L : Listing) (ms : Marks) (links : Links L) (small : length (patched L ms) ≤ 255) where
  chain_same : (p : Ends) (rest : List Ends) → Chain L p rest ↔ Chain (patched L ms) p rest
  chain_same = chain_kept (patched_renamed L ms links small)

  -- JUDGING THE WRITTEN LISTING IS JUDGING WITH THE MAP, chain included
  pub judged_with : (v : Verdict) → Judged q (patched L ms) v ↔ JudgedWith q L ms v
  judged_with robust = (
    λ h a b f. h a b (fails_patched L ms links small q a b f),
    λ h a b f. h a b (patched_fails L ms links small q a b f),
  )
  judged_with (opened p rest) = (
    λ h. (
      record {
        fails = patched_fails L ms links small q p.0 p.1 h.0.fails;
        first = λ a b f. h.0.first a b (fails_patched L ms links small q a b f);
      },
      record { chain = (chain_same p rest).1 h.1.chain; best = λ other c. h.1.best other ((chain_same p other).0 c) },
    ),
    λ h. (
      record {
        fails = fails_patched L ms links small q p.0 p.1 h.0.fails;
        first = λ a b f. h.0.first a b (patched_fails L ms links small q a b f);
      },
      record { chain = (chain_same p rest).0 h.1.chain; best = λ other c. h.1.best other ((chain_same p other).1 c) },
    ),
  )
