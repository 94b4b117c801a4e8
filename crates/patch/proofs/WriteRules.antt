-- Writing's table, check by check: what is refused before there is a length to write, then 16, then nothing.
use mathlib.Core.Path.{◌≡◌, refl, sym, subst}
use mathlib.Core.List.{List}
use Prim.Native.Nat.{ℕ, ◌≤◌, ◌<◌}
use lib.ListN.{length}
use Rattle.listing.specs.Rules.{Rule, Refusal, passed, refused, first_of}
use Rattle.listing.specs.Answer.{Answer, done, refusal, filled}
use Rattle.listing.proofs.Table.{pass, stop}
use Rattle.verdict.specs.Judging.{buffer_rules}
use Rattle.verdict.proofs.Refusing.{buffer_stops, buffer_passes}
use Rattle.patch.specs.Patching.{patch_rules, written_length, write_rules, written_bytes, Writing, WritePromise}

module _ (s map old new : List ℕ) where
  -- rule 16
  abbrev room : List Rule
  room = buffer_rules (written_length s map) old

  as_refused : (r : Answer) (f g : Refusal) → f ≡ g → Writing g s map old new r → Writing f s map old new r
  as_refused r f g e w = subst (λ (x : Refusal). Writing x s map old new r) (sym e) w

  pub too_short : length old < written_length s map → new ≡ old → Writing (first_of room) s map old new (refusal 16 0)
  too_short h e = as_refused (refusal 16 0) _ (refused 16 0) (buffer_stops (written_length s map) old h) (refl, e)

  pub written : (n : ℕ) → written_length s map ≤ length old → n ≡ written_length s map → new ≡ filled (written_bytes s map) old
      → Writing (first_of room) s map old new (done 0 0 n)
  written n h en e = as_refused (done 0 0 n) _ passed (buffer_passes (written_length s map) old h) (rw en, e)

  -- REFUSED BEFORE 16
  pub refused_early : (k p : ℕ) → first_of (patch_rules s map) ≡ refused k p → new ≡ old → WritePromise s map old new (refusal k p)
  unfolding write_rules
  refused_early k p h e =
      as_refused (refusal k p) (first_of (write_rules s map old)) (refused k p) (stop (patch_rules s map) room k p h) (refl, e)

  -- WHAT PASSED IS WRITTEN, OR REFUSED BY 16
  pub passed_early : (r : Answer) → first_of (patch_rules s map) ≡ passed → Writing (first_of room) s map old new r → WritePromise s map old new r
  unfolding write_rules
  passed_early r h w = as_refused r (first_of (write_rules s map old)) (first_of room) (pass (patch_rules s map) room h) w
