-- The line of propose's answer is the proposer's line.
use mathlib.Core.Path.{◌≡◌, refl, sym, ap, ap₂, subst, ◌∙◌}
use mathlib.Core.Bool.{Bool, true, false}
use mathlib.Core.List.{List, [], ◌∷◌, ◌++◌}
use Prim.Native.Nat.{ℕ, zero, suc, ◌+◌, ◌≤◌}
use native.Mathlib.Omega.{arith}
use borrow.Author.Tests.{ltb-false}
use Rattle.std.specs.Prelude.{Result, Ok, Err}
use lib.ListN.{length, drop, replicate}
use lib.Seq.{drop-nil}
use lib.Dec.{ltb}
use Rattle.listing.specs.Limits.{NODES}
use Rattle.listing.specs.Bytes.{count_n}
use Rattle.listing.specs.Rules.{Refusal, passed, refused, first_of}
use Rattle.listing.specs.Answer.{Answer, refusal}
use Rattle.listing.specs.declared.reason.Reason.{Reason}
use Rattle.listing.proofs.Table.{stop}
use Rattle.order.specs.Patched.{Marks, places}
use Rattle.verdict.specs.Judging.{buffer_rules}
use Rattle.verdict.proofs.Refusing.{buffer_passes, row_applies}
use Rattle.verdict.proofs.Promise.{one_kind}
use Rattle.patch.specs.Patching.{fit_rules, offer_rules, ask_rules, propose_says, map_bytes, Offered, Proposing, ProposePromise}
use Rattle.patch.proofs.Promises.{propose_says_once}
use Rattle.lines.specs.Text.{next}
use Rattle.say.specs.Lines.{refusal_line, places_from, proposal_line, OfferedLine, ProposedLine, ProposeLine}
use Rattle.say.specs.Inner.Answers.{places_of, proposed_line}
use Rattle.say.proofs.Judging.{before_passing}

-- a map buffer of 128 bytes is never refused: where the map fits, so do the nodes
offered : (s : List ℕ) (ms : Marks) (old : List ℕ) → NODES ≤ length old → first_of (offer_rules s ms old) ≡ first_of (fit_rules s ms)
unfolding offer_rules
offered s ms old h = of (ltb NODES (count_n s + places ms)) refl
  where
    of : (b : Bool) → ltb NODES (count_n s + places ms) ≡ b → first_of (fit_rules s ms ++ buffer_rules (count_n s) old) ≡ first_of (fit_rules s ms)
    of true e =
        let fifteen = row_applies (ltb NODES (count_n s + places ms)) 15 0 e in
        stop (fit_rules s ms) (buffer_rules (count_n s) old) 15 0 fifteen ∙ sym fifteen
    of false e =
        let fits = ltb-false NODES (count_n s + places ms) e in
        before_passing (fit_rules s ms) (buffer_rules (count_n s) old) (buffer_passes (count_n s) old (omega (arith, h, fits)))

-- the places that stand in the map buffer, where the rest has none
written : (i : ℕ) (ms : Marks) (rest : List ℕ) → ((j : ℕ) → places_of j rest ≡ []) → places_of i (map_bytes ms ++ rest) ≡ places_from i ms
written i [] rest none = none i
written i (true ∷ ms) rest none = ap (λ (l : List ℕ). next i ++ l) (written (suc i) ms rest none)
written i (false ∷ ms) rest none = written (suc i) ms rest none

-- a refusal that was said is its reason's line
refusal_told : (k p : ℕ) (r : Result ℕ Reason) (new : List ℕ) → propose_says r ≡ refusal k p → proposed_line r new ≡ refusal_line k p
refusal_told k p (Ok n) new e = let z : ◌≡◌ {A = ℕ} 0 2 = one_kind e in absurd (omega arith)
refusal_told k p (Err r) new e = ap₂ refusal_line (ap (λ (x : Answer). x.first) e) (ap (λ (x : Answer). x.second) e)

module _ (old : List ℕ) (room : NODES ≤ length old) (none : (n j : ℕ) → places_of j (drop n old) ≡ []) where
  offered_line : (f : Refusal) (ms : Marks) (new : List ℕ) (r : Result ℕ Reason)
      → Offered f ms old new (propose_says r) → OfferedLine f ms (proposed_line r new)
  offered_line passed ms new r h =
      ap (λ (x : Result ℕ Reason). proposed_line x new) (propose_says_once r (Ok (places ms)) h.0)
      ∙ ap (λ (l : List ℕ). proposal_line (places ms) (places_of 0 l)) h.1
      ∙ ap (proposal_line (places ms)) (written 0 ms (drop (length (map_bytes ms)) old) (none (length (map_bytes ms))))
  offered_line (refused k p) ms new r h = refusal_told k p r new h.0

  proposed_line_lem : (f : Refusal) (q : ℕ) (s new : List ℕ) (r : Result ℕ Reason)
      → Proposing f q s old new (propose_says r) → ProposedLine f q s (proposed_line r new)
  proposed_line_lem passed q s new r h =
      let ms = h.0 in (
        ms,
        h.1,
        offered_line (first_of (fit_rules s ms)) ms new r
            (subst (λ (f : Refusal). Offered f ms old new (propose_says r)) (offered s ms old room) h.2),
      )
  proposed_line_lem (refused k p) q s new r h = refusal_told k p r new h.0

  -- THE PROPOSER'S LINE, where the input has a question and the rest is the listing
  pub propose_line : (input : List ℕ) (x q : ℕ) (s new : List ℕ) (r : Result ℕ Reason) → input ≡ x ∷ s → q ≡ x
      → ProposePromise q s old new (propose_says r) → ProposeLine input (proposed_line r new)
  propose_line input x q s new r whole same p =
      subst (λ (t : List ℕ). ProposeLine t (proposed_line r new)) (ap (λ (y : ℕ). y ∷ s) same ∙ sym whole)
      (proposed_line_lem (first_of (ask_rules q s)) q s new r p)

-- a buffer of zeros has no place
pub no_places : (k n j : ℕ) → places_of j (drop n (replicate k 0)) ≡ []
no_places zero n j = ap (places_of j) (drop-nil n)
no_places (suc k) zero j = no_places k zero (suc j)
no_places (suc k) (suc n) j = no_places k n j
