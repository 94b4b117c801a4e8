-- The line of judge's answer is the judge program's line.
use mathlib.Core.Path.{◌≡◌, refl, sym, ap, ap₂, subst, ◌∙◌}
use mathlib.Core.List.{List, [], ◌∷◌, ◌++◌, append_assoc}
use Prim.Native.Nat.{ℕ, ◌≤◌}
use native.Mathlib.Omega.{arith}
use Rattle.std.specs.Prelude.{Result, Ok, Err}
use lib.ListN.{length, drop}
use Rattle.listing.specs.Node.{Listing}
use Rattle.listing.specs.Bytes.{nodes_of}
use Rattle.listing.specs.Rules.{Rule, Refusal, passed, refused, first_of}
use Rattle.listing.specs.Answer.{Answer, refusal, filled}
use Rattle.listing.specs.Ascii.{bytes}
use Rattle.listing.specs.declared.reason.Reason.{Reason}
use Rattle.listing.specs.Inner.Numbered.{or_else}
use Rattle.listing.proofs.Table.{first_of_append}
use Rattle.order.specs.Chains.{Ends}
use Rattle.order.specs.Verdict.{Verdict, robust, opened}
use Rattle.reader.specs.Read.{read_rules}
use Rattle.verdict.specs.declared.Verdict.{Verdict as Decided}
use Rattle.verdict.specs.declared.Verdict.TheVariants.{Robust, Open}
use Rattle.verdict.specs.Judging.{question_rules, buffer_rules, CHAIN, judge_rules, judge_says, chain_bytes, verdict_says, verdict_bytes, Judging, JudgePromise}
use Rattle.verdict.proofs.Refusing.{buffer_passes}
use Rattle.verdict.proofs.Promise.{one_kind, says_once}
use Rattle.patch.specs.Patching.{ask_rules}
use Rattle.lines.specs.Text.{pair}
use Rattle.say.specs.Lines.{refusal_line, pairs, open_line, verdict_line, JudgedLine, JudgeLine}
use Rattle.say.specs.Inner.Answers.{pairs_of, told_line, judged_line}

-- rules that let pass change nothing
no_more : (x y : Refusal) → y ≡ passed → or_else x y ≡ x
no_more passed y e = e
no_more (refused k p) y e = refl

pub before_passing : (a b : List Rule) → first_of b ≡ passed → first_of (a ++ b) ≡ first_of a
before_passing a b e = first_of_append a b ∙ no_more (first_of a) (first_of b) e

-- a chain buffer that is long enough is never refused
asked : (q : ℕ) (s old : List ℕ) → CHAIN ≤ length old → first_of (judge_rules q s old) ≡ first_of (ask_rules q s)
unfolding judge_rules ask_rules
asked q s old h =
    ap first_of (sym (append_assoc (question_rules q) (read_rules s) (buffer_rules CHAIN old)))
    ∙ before_passing (question_rules q ++ read_rules s) (buffer_rules CHAIN old) (buffer_passes CHAIN old h)

-- the pairs that stand in the chain buffer
written : (ps : List Ends) (rest : List ℕ) → pairs_of (length ps) (chain_bytes ps ++ rest) ≡ pairs ps
written [] rest = refl
written (p ∷ ps) rest = ap (λ (l : List ℕ). pair p.0 p.1 ++ l) (written ps rest)

pub verdict_line_lem : (v : Verdict) (r : Result Decided Reason) (old new : List ℕ)
    → judge_says r ≡ verdict_says v → new ≡ filled (verdict_bytes v) old → judged_line r new ≡ verdict_line v
verdict_line_lem robust r old new e w = ap (λ (x : Result Decided Reason). judged_line x new) (says_once r (Ok Robust) e)
verdict_line_lem (opened p rest) r old new e w =
    let ps = p ∷ rest in
    let n = length ps in
    ap (λ (x : Result Decided Reason). judged_line x new) (says_once r (Ok (Open p.0 p.1 n)) e)
    ∙ ap (λ (l : List ℕ). open_line p.0 p.1 n (pairs_of n l)) w
    ∙ ap (open_line p.0 p.1 n) (written ps (drop (length (chain_bytes ps)) old))

-- a refusal that was said is its reason's line, whatever the words for ROBUST
pub refusal_told : (words : List ℕ) (k p : ℕ) (r : Result Decided Reason) (new : List ℕ)
    → judge_says r ≡ refusal k p → told_line words r new ≡ refusal_line k p
refusal_told words k p (Ok Robust) new e = let z : ◌≡◌ {A = ℕ} 0 2 = one_kind e in absurd (omega arith)
refusal_told words k p (Ok (Open a b n)) new e = let z : ◌≡◌ {A = ℕ} 1 2 = one_kind e in absurd (omega arith)
refusal_told words k p (Err r) new e = ap₂ refusal_line (ap (λ (x : Answer). x.first) e) (ap (λ (x : Answer). x.second) e)

judged_line_lem : (f : Refusal) (q : ℕ) (L : Listing) (old new : List ℕ) (r : Result Decided Reason)
    → Judging f q L old new (judge_says r) → JudgedLine f q L (judged_line r new)
judged_line_lem passed q L old new r t = (t.verdict, t.judged, verdict_line_lem t.verdict r old new t.says t.writes)
judged_line_lem (refused k p) q L old new r h = refusal_told (bytes "ROBUST\n") k p r new h.0

-- THE JUDGE PROGRAM'S LINE, where the input has a question and the rest is the listing
pub judge_line : (input : List ℕ) (x q : ℕ) (s old new : List ℕ) (r : Result Decided Reason) → input ≡ x ∷ s → q ≡ x
    → CHAIN ≤ length old → JudgePromise q s old new (judge_says r) → JudgeLine input (judged_line r new)
judge_line input x q s old new r whole same h p =
    let promise = subst (λ (f : Refusal). Judging f q (nodes_of s) old new (judge_says r)) (asked q s old h) p in
    let line = judged_line_lem (first_of (ask_rules q s)) q (nodes_of s) old new r promise in
    subst (λ (t : List ℕ). JudgeLine t (judged_line r new)) (ap (λ (y : ℕ). y ∷ s) same ∙ sym whole) line
