-- The third demand about judging with a map: accepted exactly if the map fits and every closed chain of steps of the patched listing has each step
-- in order or free of need; and which maps are accepted.
use mathlib.Core.Path.{◌≡◌, sym, ◌∙◌, subst}
use mathlib.Core.Logic.{◌↔◌}
use mathlib.Core.List.{List, ◌++◌}
use Prim.Native.Nat.{ℕ, ◌+◌, ◌≤◌, ◌<◌}
use native.Mathlib.Decide.{dec_le}
use native.Mathlib.Omega.{arith}
use lib.ListN.{length}
use Rattle.listing.specs.Limits.{NODES}
use Rattle.listing.specs.Node.{Listing}
use Rattle.listing.specs.Bytes.{version_of, count_f, count_n, nodes_of}
use Rattle.listing.specs.Rules.{Refusal, passed, refused, first_of}
use Rattle.listing.specs.Answer.{Answer, refusal}
use Rattle.listing.proofs.Nodes.{nodes_length}
use Rattle.listing.proofs.Table.{pass, stop, pass_first, pass_then}
use Rattle.order.specs.Verdict.{Robust, Verdict, robust, opened, Judged}
use Rattle.order.specs.Steps.{Ordered}
use Rattle.order.specs.Patched.{places, patched}
use Rattle.order.proofs.Patch.{Links, length_patched}
use Rattle.order.proofs.PatchFails.{accepted, acceptance_monotone}
use Rattle.order.proofs.DemandThree.{robust_ordered, ordered_robust}
use Rattle.reader.specs.Read.{read_rules, Admitted}
use Rattle.reader.proofs.Admitted.{admitted_valid}
use Rattle.fencing.specs.Marks.{marks_of}
use Rattle.fencing.specs.Inner.MapFits.{MapFits}
use Rattle.fencing.proofs.Marks.{mapped}
use Rattle.fencing.proofs.PatchedValid.{valid_links}
use Rattle.verdict.specs.Judging.{question_rules, buffer_rules, CHAIN, verdict_says, Told, Judging}
use Rattle.verdict.proofs.Promise.{one_kind}
use Rattle.patch.specs.Patching.{map_rules, fit_rules, patch_rules, judge_patch_rules, JudgePatchPromise}
use Rattle.patch.specs.Accepting.{other_rules, Spoken, Fits, Accepted, Serves, Adds}
use Rattle.patch.proofs.MapRules.{patched_of, fit_stops, fit_passes, passes_admitted, passes_fits}

-- ── ROBUST is said exactly of robust listings ───────────────────────────────
robust_said : (q : ℕ) (L : Listing) (v : Verdict) (r : Answer) → Judged q L v → r ≡ verdict_says v → Accepted r → Robust q L
robust_said q L robust r j e a = j
robust_said q L (opened p rest) r j e a = absurd (omega (arith, one_kind (sym a ∙ e)))

says_robust : (q : ℕ) (L : Listing) (v : Verdict) (r : Answer) → Judged q L v → r ≡ verdict_says v → Robust q L → Accepted r
says_robust q L robust r j e h = e
says_robust q L (opened p rest) r j e h = absurd (h p.0 p.1 j.0.fails)

-- ── A call's table, where no refusal other than 15 meets it ─────────────────
module _ (q : ℕ) (s map old : List ℕ) where
  module _ (spoken : Spoken q s map old) where
    asked : first_of (question_rules q) ≡ passed
    unfolding other_rules
    asked = pass_first (question_rules q) (read_rules s ++ (map_rules s map ++ buffer_rules CHAIN old)) spoken

    read_on : first_of (read_rules s ++ (map_rules s map ++ buffer_rules CHAIN old)) ≡ passed
    unfolding other_rules
    read_on = pass_then (question_rules q) (read_rules s ++ (map_rules s map ++ buffer_rules CHAIN old)) spoken

    map_on : first_of (map_rules s map ++ buffer_rules CHAIN old) ≡ passed
    map_on = pass_then (read_rules s) (map_rules s map ++ buffer_rules CHAIN old) read_on

    to_fit : first_of (patch_rules s map) ≡ first_of (fit_rules s (marks_of map))
    unfolding patch_rules
    to_fit =
        pass (read_rules s) (map_rules s map ++ fit_rules s (marks_of map)) (pass_first (read_rules s) (map_rules s map ++ buffer_rules CHAIN old) read_on)
        ∙ pass (map_rules s map) (fit_rules s (marks_of map)) (pass_first (map_rules s map) (buffer_rules CHAIN old) map_on)

    map_fits : Fits s (marks_of map) → first_of (patch_rules s map) ≡ passed
    map_fits h = to_fit ∙ fit_passes s (marks_of map) h

    call_passes : Fits s (marks_of map) → first_of (judge_patch_rules q s map old) ≡ passed
    unfolding judge_patch_rules
    call_passes h =
        pass (question_rules q) (patch_rules s map ++ buffer_rules CHAIN old) asked
        ∙ pass (patch_rules s map) (buffer_rules CHAIN old) (map_fits h)
        ∙ pass_then (map_rules s map) (buffer_rules CHAIN old) map_on

    call_refused : NODES < count_n s + places (marks_of map) → first_of (judge_patch_rules q s map old) ≡ refused 15 0
    unfolding judge_patch_rules
    call_refused h =
        pass (question_rules q) (patch_rules s map ++ buffer_rules CHAIN old) asked
        ∙ stop (patch_rules s map) (buffer_rules CHAIN old) 15 0 (to_fit ∙ fit_stops s (marks_of map) h)

  module _ (new : List ℕ) (r : Answer) (promise : JudgePatchPromise q s map old new r) where
    by_table : (f : Refusal) → first_of (judge_patch_rules q s map old) ≡ f → Judging f q (patched_of s map) old new r
    by_table f e = subst (λ (x : Refusal). Judging x q (patched_of s map) old new r) e promise

    -- a call that is answered is ROBUST exactly if the patched listing is
    told_robust : first_of (judge_patch_rules q s map old) ≡ passed → Accepted r ↔ Robust q (patched_of s map)
    told_robust e =
        let t : Told q (patched_of s map) old new r = by_table passed e in (
          robust_said q (patched_of s map) t.verdict r t.judged t.says,
          says_robust q (patched_of s map) t.verdict r t.judged t.says,
        )

    module _ (spoken : Spoken q s map old) where
      refused_15 : (Fits s (marks_of map) → ⊥) → r ≡ refusal 15 0
      refused_15 n = (by_table (refused 15 0) (call_refused spoken (omega arith))).0

      -- THE THIRD DEMAND
      pub demand3 : Accepted r ↔ (Fits s (marks_of map) × Ordered q (patched (nodes_of s) (marks_of map)))
      demand3 = (
        λ a. go a (dec_le (count_n s + places (marks_of map)) NODES),
        λ h. (told_robust (call_passes spoken h.0)).1 (ordered_robust q (patched_of s map) h.1),
      )
        where
          go : Accepted r → Dec (Fits s (marks_of map)) → Fits s (marks_of map) × Ordered q (patched_of s map)
          go a (yes h) = (h, robust_ordered q (patched_of s map) ((told_robust (call_passes spoken h)).0 a))
          go a (no n) = absurd (omega (arith, one_kind (sym a ∙ refused_15 n)))

      -- 15 EXACTLY IF THE MAP DOES NOT FIT
      pub refused_15_exactly : (r ≡ refusal 15 0) ↔ (Fits s (marks_of map) → ⊥)
      refused_15_exactly = (λ e h. told (by_table passed (call_passes spoken h)) e, refused_15)
        where
          other : (v : Verdict) → r ≡ verdict_says v → r ≡ refusal 15 0 → ⊥
          other robust e k = omega (arith, one_kind (sym e ∙ k))
          other (opened p rest) e k = omega (arith, one_kind (sym e ∙ k))

          told : Told q (patched_of s map) old new r → r ≡ refusal 15 0 → ⊥
          told t k = other t.verdict t.says k

-- ── Which maps are accepted ─────────────────────────────────────────────────
links_of : (s : List ℕ) → Admitted s → Links (nodes_of s)
links_of s e = valid_links (version_of s) (count_f s) (nodes_of s) (admitted_valid s e)

small : (s map : List ℕ) → MapFits s map → length (patched_of s map) ≤ 255
small s map fits = omega (arith, length_patched (nodes_of s) (marks_of map) (mapped s map fits), nodes_length s, fits.few)

-- A MAP WITH A FENCE AFTER THE FIRST ACCESS OF EVERY FAILING PAIR, THAT FITS, IS ACCEPTED
pub serving_accepted : (q : ℕ) (s map old new : List ℕ) (r : Answer) → JudgePatchPromise q s map old new r
    → Spoken q s map old → Fits s (marks_of map) → Serves q s map → Accepted r
serving_accepted q s map old new r promise spoken fits serves =
    let p = map_fits q s map old spoken fits in
    (told_robust q s map old new r promise (call_passes q s map old spoken fits)).1
    (accepted (nodes_of s) (marks_of map) (links_of s (passes_admitted s map p)) (small s map (passes_fits s map p)) q serves)

-- AN ACCEPTED MAP STAYS ACCEPTED WHEN PLACES ARE ADDED AND IT STILL FITS
pub more_accepted : (q : ℕ) (s map more old old' new new' : List ℕ) (r r' : Answer)
    → JudgePatchPromise q s map old new r → JudgePatchPromise q s more old' new' r'
    → Spoken q s map old → Spoken q s more old' → Fits s (marks_of more) → Adds map more → Accepted r → Accepted r'
more_accepted q s map more old old' new new' r r' promise promise' spoken spoken' fits' adds a =
    let fits = ((demand3 q s map old new r promise spoken).0 a).0 in
    let p = map_fits q s map old spoken fits in
    let p' = map_fits q s more old' spoken' fits' in
    (told_robust q s more old' new' r' promise' (call_passes q s more old' spoken' fits')).1
    (acceptance_monotone q (nodes_of s) (marks_of map) (marks_of more) (links_of s (passes_admitted s map p))
    (small s map (passes_fits s map p)) (small s more (passes_fits s more p')) adds
    ((told_robust q s map old new r promise (call_passes q s map old spoken fits)).0 a))
