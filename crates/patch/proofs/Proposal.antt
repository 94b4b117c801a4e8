-- What propose writes: the marks of the failing pairs' first nodes, a map that judging accepts.
use mathlib.Core.Path.{◌≡◌, refl, sym, ap, ◌∙◌, subst}
use mathlib.Core.Bool.{true, false}
use mathlib.Core.List.{List, [], ◌∷◌, ◌++◌}
use Prim.Native.Nat.{ℕ, suc, ◌≤◌}
use native.Mathlib.Omega.{arith}
use borrow.Author.Tests.{eq-eqb, ltb-false}
use lib.ListN.{length, take, drop}
use lib.Seq.{take_at}
use Rattle.listing.specs.Bytes.{count_n, nodes_of}
use Rattle.listing.specs.Rules.{Refusal, passed, refused, first_of}
use Rattle.listing.specs.Answer.{Answer, done, filled}
use Rattle.listing.proofs.Nodes.{nodes_length}
use Rattle.listing.proofs.Table.{pass, pass_first, pass_then, none_applies}
use Rattle.order.specs.Patched.{Marks, marked}
use Rattle.order.specs.Proposed.{Proposed}
use Rattle.reader.specs.Read.{read_rules}
use Rattle.fencing.specs.Marks.{marks_of}
use Rattle.verdict.specs.Judging.{question_rules, buffer_rules, CHAIN}
use Rattle.verdict.proofs.Refusing.{buffer_passes}
use Rattle.verdict.proofs.Promise.{one_kind}
use Rattle.patch.specs.Patching.{
  byte_rules,
  map_rules,
  fit_rules,
  JudgePatchPromise,
  map_bytes,
  ask_rules,
  offer_rules,
  Offered,
  Proposing,
  ProposePromise,
}
use Rattle.patch.specs.Accepting.{other_rules, Spoken, Fits, Accepted}
use Rattle.patch.proofs.DemandThree.{serving_accepted}

-- ── The bytes of marks ──────────────────────────────────────────────────────
bytes_length : (ms : Marks) → length (map_bytes ms) ≡ length ms
bytes_length [] = refl
bytes_length (m ∷ ms) = ap suc (bytes_length ms)

bytes_marks : (ms : Marks) → marks_of (map_bytes ms) ≡ ms
unfolding marks_of
bytes_marks [] = refl
bytes_marks (true ∷ ms) = ap (λ (l : Marks). true ∷ l) (bytes_marks ms)
bytes_marks (false ∷ ms) = ap (λ (l : Marks). false ∷ l) (bytes_marks ms)

no_byte_wrong : (i : ℕ) (ms : Marks) → first_of (byte_rules i (map_bytes ms)) ≡ passed
no_byte_wrong i [] = refl
no_byte_wrong i (true ∷ ms) = no_byte_wrong (suc i) ms
no_byte_wrong i (false ∷ ms) = no_byte_wrong (suc i) ms

map_passes : (s : List ℕ) (ms : Marks) → length ms ≡ count_n s → first_of (map_rules s (map_bytes ms)) ≡ passed
unfolding map_rules
map_passes s ms h = simp (eq-eqb (length (map_bytes ms)) (count_n s) (bytes_length ms ∙ h)) (no_byte_wrong 0 ms)

-- ── A count is answered only where nothing is refused ───────────────────────
offer_answered : (f : Refusal) (ms : Marks) (old new : List ℕ) (k : ℕ) → Offered f ms old new (done 0 0 k)
    → (f ≡ passed) × (new ≡ filled (map_bytes ms) old)
offer_answered passed ms old new k o = (refl, o.1)
offer_answered (refused n p) ms old new k o = absurd (omega (arith, one_kind o.0))

ask_answered : (f : Refusal) (q : ℕ) (s old new : List ℕ) (k : ℕ) → Proposing f q s old new (done 0 0 k)
    → (f ≡ passed) × ((ms : Marks) × Proposed q (nodes_of s) ms × Offered (first_of (offer_rules s ms old)) ms old new (done 0 0 k))
ask_answered passed q s old new k o = (refl, o)
ask_answered (refused n p) q s old new k o = absurd (omega (arith, one_kind o.0))

module _ (q : ℕ) (s old new : List ℕ) (k : ℕ) (promise : ProposePromise q s old new (done 0 0 k)) where
  ask_passes : first_of (ask_rules q s) ≡ passed
  ask_passes = (ask_answered (first_of (ask_rules q s)) q s old new k promise).0

  -- the marks that were proposed
  pub proposal : Marks
  proposal = (ask_answered (first_of (ask_rules q s)) q s old new k promise).1.0

  -- THEY ARE THE FIRST NODES OF THE FAILING PAIRS
  pub proposal_right : Proposed q (nodes_of s) proposal
  unfolding proposal
  proposal_right = (ask_answered (first_of (ask_rules q s)) q s old new k promise).1.1

  offer : (first_of (offer_rules s proposal old) ≡ passed) × (new ≡ filled (map_bytes proposal) old)
  unfolding proposal
  offer = offer_answered (first_of (offer_rules s proposal old)) proposal old new k (ask_answered (first_of (ask_rules q s)) q s old new k promise).1.2

  proposal_length : length proposal ≡ count_n s
  proposal_length = proposal_right.size ∙ nodes_length s

  -- THE FIRST N BYTES ARE THE MARKS
  pub proposal_bytes : take (count_n s) new ≡ map_bytes proposal
  proposal_bytes =
      ap (take (count_n s)) offer.1
      ∙ take_at (map_bytes proposal) (drop (length (map_bytes proposal)) old) (count_n s) (bytes_length proposal ∙ proposal_length)

  proposal_fits : Fits s proposal
  unfolding offer_rules
  proposal_fits = ltb-false _ _ (none_applies (fit_rules s proposal) (pass_first (fit_rules s proposal) (buffer_rules (count_n s) old) offer.0)).0

  asks : (first_of (question_rules q) ≡ passed) × (first_of (read_rules s) ≡ passed)
  unfolding ask_rules
  asks = (pass_first (question_rules q) (read_rules s) ask_passes, pass_then (question_rules q) (read_rules s) ask_passes)

  module _ (chain : List ℕ) (room : CHAIN ≤ length chain) where
    spoken : Spoken q s (map_bytes proposal) chain
    unfolding other_rules
    spoken =
        pass (question_rules q) (read_rules s ++ (map_rules s (map_bytes proposal) ++ buffer_rules CHAIN chain)) asks.0
        ∙ pass (read_rules s) (map_rules s (map_bytes proposal) ++ buffer_rules CHAIN chain) asks.1
        ∙ pass (map_rules s (map_bytes proposal)) (buffer_rules CHAIN chain) (map_passes s proposal proposal_length)
        ∙ buffer_passes CHAIN chain room

    -- JUDGE_PATCH ACCEPTS WHAT PROPOSE WROTE
    pub proposal_accepted : (chain' : List ℕ) (r : Answer) → JudgePatchPromise q s (take (count_n s) new) chain chain' r → Accepted r
    proposal_accepted chain' r judged =
        serving_accepted q s (map_bytes proposal) chain chain' r
        (subst (λ (map : List ℕ). JudgePatchPromise q s map chain chain' r) proposal_bytes judged)
        spoken
        (subst (Fits s) (sym (bytes_marks proposal)) proposal_fits)
        (λ a b f. ap (λ (ms : Marks). marked ms a) (bytes_marks proposal) ∙ proposal_right.serves a b f)
