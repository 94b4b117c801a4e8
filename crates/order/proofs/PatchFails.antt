-- The failing pairs of a patched listing are, in the old numbers, those old failing pairs that have a walk with no barrier
-- inside which passes no mark; so acceptance is monotone in the map.
use mathlib.Core.Path.{◌≡◌, sym, ◌∙◌}
use mathlib.Core.Logic.{◌⊎◌, inl, inr, ◌↔◌}
use mathlib.Core.List.{List, ◌∷◌}
use mathlib.Core.Bool.{true, false, false≢true}
use Prim.Native.Nat.{ℕ, ◌≤◌}
use lib.ListN.{length}
use Rattle.listing.specs.Node.{Listing}
use Rattle.order.specs.Walks.{Access}
use Rattle.order.specs.Chains.{MayMeet}
use Rattle.order.specs.Verdict.{Fails, Robust}
use Rattle.order.specs.Patched.{Marks, marked, patched}
use Rattle.order.specs.With.{Unmarked, FailsWith}
use Rattle.listing.proofs.Bools.{bool?}
use Rattle.order.proofs.Lists.{all_in, in_all}
use Rattle.order.proofs.Renaming.{meets_same}
use Rattle.order.proofs.RenamingFails.{fails_kept}
use Rattle.order.proofs.Patch.{Links}
use Rattle.order.proofs.PatchWalk.{patched_renamed}

module _ (L : Listing) (ms : Marks) (links : Links L) (small : length (patched L ms) ≤ 255) where
  -- old accesses meet exactly if they did: a fence writes nothing
  pub patched_meets : (a b : ℕ) → Access L a → Access L b → MayMeet L a b ↔ MayMeet (patched L ms) a b
  patched_meets = meets_same (patched_renamed L ms links small)

  -- the same pairs fail with the map and in the patched listing
  pub patched_fails : (q a b : ℕ) → Fails q (patched L ms) a b → FailsWith q L ms a b
  patched_fails q a b f = let g = (fails_kept (patched_renamed L ms links small) q a b).1 f in record { fails = g.fails; walk_open = g.walk_open }

  pub fails_patched : (q a b : ℕ) → FailsWith q L ms a b → Fails q (patched L ms) a b
  fails_patched q a b f = (fails_kept (patched_renamed L ms links small) q a b).0 record { fails = f.fails; walk_open = f.walk_open }

  -- a map that marks the first node of every failing pair is accepted
  pub accepted : (q : ℕ) → ((a b : ℕ) → Fails q L a b → marked ms a ≡ true) → Robust q (patched L ms)
  accepted q h a b f =
      let g = patched_fails q a b f in
      false≢true (sym g.walk_open.0 ∙ h a b g.fails)

-- a walk that passes no mark passes none of fewer
unmarked_fewer : (ms ns : Marks) → ((y : ℕ) → marked ms y ≡ true → marked ns y ≡ true) → (a : ℕ) (xs : List ℕ) → Unmarked ns a xs → Unmarked ms a xs
unmarked_fewer ms ns h a xs u =
    in_all (λ y. marked ms y ≡ false) (a ∷ xs) (λ y i. go y (all_in (λ y. marked ns y ≡ false) (a ∷ xs) u y i) (bool? (marked ms y)))
  where
    go : (y : ℕ) → marked ns y ≡ false → (marked ms y ≡ true) ⊎ (marked ms y ≡ false) → marked ms y ≡ false
    go y e (inl m) = absurd (false≢true (sym e ∙ h y m))
    go y e (inr m) = m

-- ACCEPTANCE IS MONOTONE IN THE MAP
pub acceptance_monotone : (q : ℕ) (L : Listing) (ms ns : Marks) → Links L → length (patched L ms) ≤ 255 → length (patched L ns) ≤ 255
    → ((y : ℕ) → marked ms y ≡ true → marked ns y ≡ true) → Robust q (patched L ms) → Robust q (patched L ns)
acceptance_monotone q L ms ns links small small' h r a b f =
    let g = patched_fails L ns links small' q a b f in
    let u = unmarked_fewer ms ns h a g.fails.unbarred.0 g.walk_open in
    r a b (fails_patched L ms links small q a b record { fails = g.fails; walk_open = u })
