-- What write writes is admitted and reads back as the old nodes with exactly the fences asked for; and judging it is judging with the map.
use mathlib.Core.Path.{◌≡◌, refl, sym, ap, ◌∙◌, subst, subst₂}
use mathlib.Core.List.{List, ◌++◌}
use Prim.Native.Nat.{ℕ, ◌≤◌}
use native.Mathlib.Omega.{arith}
use Rattle.std.specs.Prelude.{Result, Ok}
use lib.ListN.{length, take}
use borrow.Author.Tests.{ltb-false}
use Rattle.listing.specs.Node.{Listing}
use Rattle.listing.specs.Bytes.{nodes_of}
use Rattle.listing.specs.Rules.{Rule, Refusal, passed, refused, first_of}
use Rattle.listing.specs.Inner.Numbered.{or_else}
use Rattle.listing.specs.Answer.{Answer, done, filled}
use Rattle.listing.specs.declared.reason.Reason.{Reason}
use Rattle.listing.proofs.Table.{none_applies, first_of_append, pass, pass_first, pass_then}
use Rattle.order.specs.Patched.{patched}
use Rattle.reader.specs.Read.{read_rules}
use Rattle.fencing.specs.Marks.{marks_of}
use Rattle.fencing.specs.Written.{Written}
use Rattle.fencing.proofs.Written.{written}
use Rattle.verdict.specs.declared.Verdict.{Verdict as Decided}
use Rattle.verdict.specs.Judging.{question_rules, buffer_rules, CHAIN, judge_rules, judge_says, Judging, JudgePromise}
use Rattle.verdict.proofs.Promise.{one_kind, says_once, judging_once}
use Rattle.patch.specs.Patching.{
  patch_rules,
  judge_patch_rules,
  JudgePatchPromise,
  written_length,
  write_rules,
  written_bytes,
  write_says,
  Writing,
  WritePromise,
}
use Rattle.patch.proofs.MapRules.{patched_of, passes_admitted, passes_fits}
use Rattle.patch.proofs.PutBack.{put_read}

-- a length is answered only where nothing is refused
length_answered : (f : Refusal) (s map old new : List ℕ) (n : ℕ) → Writing f s map old new (done 0 0 n)
    → (f ≡ passed) × (n ≡ written_length s map) × (new ≡ filled (written_bytes s map) old)
length_answered passed s map old new n w = (refl, ap (λ (a : Answer). a.count) w.0, w.1)
length_answered (refused k p) s map old new n w = absurd (omega (arith, one_kind w.0))

-- what a caller that was answered a length learns: it lies within the listing buffer
pub length_within : (s map old new : List ℕ) (r : Result ℕ Reason) (n : ℕ) → WritePromise s map old new (write_says r) → r ≡ Ok n → n ≤ length old
unfolding write_rules
length_within s map old new r n w is =
    let told = subst (λ (x : Result ℕ Reason). WritePromise s map old new (write_says x)) is w in
    let a = length_answered (first_of (write_rules s map old)) s map old new n told in
    let passing = pass_then (patch_rules s map) (buffer_rules (written_length s map) old) a.0 in
    let room : written_length s map ≤ length old = ltb-false _ _ (none_applies (buffer_rules (written_length s map) old) passing).0 in
    omega (arith, a.1, room)

-- one table between two others that lets pass
skip : (a b c : List Rule) → first_of b ≡ passed → first_of (a ++ (b ++ c)) ≡ first_of (a ++ c)
skip a b c e = first_of_append a (b ++ c) ∙ ap (or_else (first_of a)) (pass b c e) ∙ sym (first_of_append a c)

module _ (s map old new : List ℕ) (n : ℕ) (w : WritePromise s map old new (done 0 0 n)) where
  passes : first_of (patch_rules s map) ≡ passed
  unfolding write_rules
  passes = pass_first (patch_rules s map) (buffer_rules (written_length s map) old) (length_answered (first_of (write_rules s map old)) s map old new n w).0

  -- WHAT IS WRITTEN IS ADMITTED AND READS BACK, node by node and as a whole
  pub reads_back : Written s map old new n × (nodes_of (take n new) ≡ patched (nodes_of s) (marks_of map))
  reads_back =
      let a = length_answered (first_of (write_rules s map old)) s map old new n w in
      let fits = passes_fits s map passes in
      (written s map fits old new n (passes_admitted s map passes) a.1 a.2, put_read s map fits old new n a.1 a.2)

  module _ (q : ℕ) (chain : List ℕ) where
    same_table : first_of (judge_rules q (take n new) chain) ≡ first_of (judge_patch_rules q s map chain)
    unfolding judge_rules judge_patch_rules
    same_table =
        skip (question_rules q) (read_rules (take n new)) (buffer_rules CHAIN chain) reads_back.0.admitted
        ∙ sym (skip (question_rules q) (patch_rules s map) (buffer_rules CHAIN chain) passes)

    -- JUDGING THE WRITTEN LISTING IS JUDGING WITH THE MAP, chain and refusals included
    pub judge_written : (new₁ new₂ : List ℕ) (r₁ r₂ : Result Decided Reason)
        → JudgePatchPromise q s map chain new₁ (judge_says r₁) → JudgePromise q (take n new) chain new₂ (judge_says r₂) → (r₁ ≡ r₂) × (new₁ ≡ new₂)
    judge_written new₁ new₂ r₁ r₂ h k =
        let k' = subst₂ (λ (f : Refusal) (L : Listing). Judging f q L chain new₂ (judge_says r₂)) same_table reads_back.1 k in
        let o = judging_once (first_of (judge_patch_rules q s map chain)) q (patched_of s map) chain new₁ new₂ (judge_says r₁) (judge_says r₂) h k' in
        (says_once r₁ r₂ o.0, o.1)
