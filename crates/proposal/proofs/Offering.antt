-- Propose's tables, check by check, and the bytes that it writes.
use mathlib.Core.Path.{◌≡◌, refl, sym, ap, ap₂, ◌∙◌, subst}
use mathlib.Core.Bool.{true, false}
use mathlib.Core.List.{List, [], ◌∷◌}
use Prim.Native.Nat.{ℕ, zero, suc, ◌+◌, ◌≤◌, ◌<◌}
use native.Mathlib.Omega.{arith}
use lib.ListN.{length, get_or}
use Rattle.listing.specs.Limits.{NODES}
use Rattle.listing.specs.Bytes.{count_n}
use Rattle.listing.specs.Rules.{Refusal, passed, refused, first_of}
use Rattle.listing.specs.Answer.{Answer, done, refusal, filled}
use Rattle.listing.proofs.Table.{pass, stop}
use Rattle.order.specs.Patched.{places}
use Rattle.reader.specs.Read.{read_rules, Admitted}
use Rattle.fencing.specs.Marks.{is_mark, marks_of}
use Rattle.verdict.specs.Judging.{wrong_question, buffer_rules}
use Rattle.verdict.proofs.Refusing.{question_stops, question_passes, buffer_stops, buffer_passes}
use Rattle.patch.specs.Patching.{fit_rules, map_byte, map_bytes, ask_rules, offer_rules, Offered, Proposing, ProposePromise}
use Rattle.patch.specs.Accepting.{Fits}
use Rattle.patch.proofs.MapRules.{fit_stops, fit_passes}
use Rattle.proposal.specs.Inner.Marking.{Drawn}

-- ── The bytes of a map are those of its marks ───────────────────────────────
mark_byte : (x : ℕ) → x ≤ 1 → map_byte (is_mark x) ≡ x
mark_byte zero h = refl
mark_byte (suc zero) h = refl
mark_byte (suc (suc x)) h = absurd (omega arith)

marks_bytes : (l : List ℕ) → ((a : ℕ) → a < length l → get_or l a 0 ≤ 1) → map_bytes (marks_of l) ≡ l
unfolding marks_of
marks_bytes [] h = refl
marks_bytes (x ∷ xs) h =
    ap₂ (λ (y : ℕ) (ys : List ℕ). y ∷ ys) (mark_byte x (h 0 (omega arith))) (marks_bytes xs (λ a l. h (suc a) (omega arith)))

-- ── Rules 15 and 16, and what is written ────────────────────────────────────
module _ (s marks old new : List ℕ) where
  abbrev table : Refusal
  table = first_of (offer_rules s (marks_of marks) old)

  as_refused : (r : Answer) (g : Refusal) → table ≡ g → Offered g (marks_of marks) old new r → Offered table (marks_of marks) old new r
  as_refused r g e o = subst (λ (f : Refusal). Offered f (marks_of marks) old new r) (sym e) o

  by_15 : NODES < count_n s + places (marks_of marks) → table ≡ refused 15 0
  unfolding offer_rules
  by_15 h = stop (fit_rules s (marks_of marks)) (buffer_rules (count_n s) old) 15 0 (fit_stops s (marks_of marks) h)

  pub offer_15 : NODES < count_n s + places (marks_of marks) → new ≡ old → Offered table (marks_of marks) old new (refusal 15 0)
  offer_15 h e = as_refused (refusal 15 0) (refused 15 0) (by_15 h) (refl, e)

  module _ (fits : Fits s (marks_of marks)) where
    past_15 : table ≡ first_of (buffer_rules (count_n s) old)
    unfolding offer_rules
    past_15 = pass (fit_rules s (marks_of marks)) (buffer_rules (count_n s) old) (fit_passes s (marks_of marks) fits)

    pub offer_16 : length old < count_n s → new ≡ old → Offered table (marks_of marks) old new (refusal 16 0)
    offer_16 h e = as_refused (refusal 16 0) (refused 16 0) (past_15 ∙ buffer_stops (count_n s) old h) (refl, e)

    pub offered : (k : ℕ) → count_n s ≤ length old → Drawn s marks → k ≡ places (marks_of marks) → new ≡ filled marks old
        → Offered table (marks_of marks) old new (done 0 0 k)
    offered k h drawn ek e =
        as_refused (done 0 0 k) passed (past_15 ∙ buffer_passes (count_n s) old h)
        (rw ek, e ∙ ap (λ (l : List ℕ). filled l old) (sym (marks_bytes marks drawn.bytes)))

-- ── What is refused before there is a map to write ──────────────────────────
module _ (q : ℕ) (s old new : List ℕ) where
  asked_as : (r : Answer) (g : Refusal) → first_of (ask_rules q s) ≡ g → Proposing g q s old new r → ProposePromise q s old new r
  asked_as r g e p = subst (λ (f : Refusal). Proposing f q s old new r) (sym e) p

  pub ask_1 : wrong_question q ≡ true → new ≡ old → ProposePromise q s old new (refusal 1 0)
  unfolding ask_rules
  ask_1 w e = asked_as (refusal 1 0) (refused 1 0) (question_stops q (read_rules s) w) (refl, e)

  pub ask_listing : (k p : ℕ) → wrong_question q ≡ false → first_of (read_rules s) ≡ refused k p → new ≡ old → ProposePromise q s old new (refusal k p)
  unfolding ask_rules
  ask_listing k p w h e = asked_as (refusal k p) (refused k p) (question_passes q (read_rules s) w ∙ h) (refl, e)

  pub ask_passes : (r : Answer) → wrong_question q ≡ false → Admitted s → Proposing passed q s old new r → ProposePromise q s old new r
  unfolding ask_rules
  ask_passes r w h p = asked_as r passed (question_passes q (read_rules s) w ∙ h) p
