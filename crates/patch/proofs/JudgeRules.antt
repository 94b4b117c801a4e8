-- The table of judging with a map, check by check: 1, then the listing and the map, then 16, then nothing.
use mathlib.Core.Path.{◌≡◌, refl, sym, ◌∙◌, subst}
use mathlib.Core.Bool.{true, false}
use mathlib.Core.List.{List, ◌++◌}
use Prim.Native.Nat.{ℕ, ◌≤◌, ◌<◌}
use lib.ListN.{length}
use Rattle.listing.specs.Node.{Listing}
use Rattle.listing.specs.Rules.{Refusal, passed, refused, first_of}
use Rattle.listing.specs.Answer.{Answer, refusal}
use Rattle.listing.proofs.Table.{pass, stop}
use Rattle.verdict.specs.Judging.{wrong_question, buffer_rules, CHAIN, Told, Judging}
use Rattle.verdict.proofs.Refusing.{question_stops, question_passes, buffer_stops, buffer_passes}
use Rattle.patch.specs.Patching.{patch_rules, judge_patch_rules, JudgePatchPromise}
use Rattle.patch.proofs.MapRules.{patched_of}

-- what is told of one listing is told of an equal one
pub told_of : {q : ℕ} {L M : Listing} {old new : List ℕ} {r : Answer} → L ≡ M → Told q L old new r → Told q M old new r
told_of {q = q} {old = old} {new = new} {r = r} e t = subst (λ (L : Listing). Told q L old new r) e t

module _ (q : ℕ) (s map old new : List ℕ) where
  as_judged : (r : Answer) (g : Refusal) → first_of (judge_patch_rules q s map old) ≡ g → Judging g q (patched_of s map) old new r
      → JudgePatchPromise q s map old new r
  as_judged r g e j = subst (λ (f : Refusal). Judging f q (patched_of s map) old new r) (sym e) j

  pub wrongly_asked : wrong_question q ≡ true → new ≡ old → JudgePatchPromise q s map old new (refusal 1 0)
  unfolding judge_patch_rules
  wrongly_asked w e = as_judged (refusal 1 0) (refused 1 0) (question_stops q (patch_rules s map ++ buffer_rules CHAIN old) w) (refl, e)

  module _ (asked : wrong_question q ≡ false) where
    pub not_patched : (k p : ℕ) → first_of (patch_rules s map) ≡ refused k p → new ≡ old → JudgePatchPromise q s map old new (refusal k p)
    unfolding judge_patch_rules
    not_patched k p h e =
        let first = question_passes q (patch_rules s map ++ buffer_rules CHAIN old) asked ∙ stop (patch_rules s map) (buffer_rules CHAIN old) k p h in
        as_judged (refusal k p) (refused k p) first (refl, e)

    past_map : first_of (patch_rules s map) ≡ passed → first_of (judge_patch_rules q s map old) ≡ first_of (buffer_rules CHAIN old)
    unfolding judge_patch_rules
    past_map h = question_passes q (patch_rules s map ++ buffer_rules CHAIN old) asked ∙ pass (patch_rules s map) (buffer_rules CHAIN old) h

    pub chain_too_short : first_of (patch_rules s map) ≡ passed → length old < CHAIN → new ≡ old → JudgePatchPromise q s map old new (refusal 16 0)
    chain_too_short h l e = as_judged (refusal 16 0) (refused 16 0) (past_map h ∙ buffer_stops CHAIN old l) (refl, e)

    -- WHERE NOTHING IS REFUSED, THE VERDICT OF THE PATCHED LISTING IS TOLD
    pub told_with_map : (r : Answer) → first_of (patch_rules s map) ≡ passed → CHAIN ≤ length old → Told q (patched_of s map) old new r
        → JudgePatchPromise q s map old new r
    told_with_map r h l t = as_judged r passed (past_map h ∙ buffer_passes CHAIN old l) t
