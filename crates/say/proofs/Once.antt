-- An input has one line: the promises of both programs' lines leave one answer and one content of the lent buffer.
use mathlib.Core.Path.{◌≡◌, sym, subst}
use mathlib.Core.List.{List, [], ◌∷◌}
use Prim.Native.Nat.{ℕ}
use Rattle.listing.specs.Node.{Listing}
use Rattle.listing.specs.Bytes.{nodes_of}
use Rattle.listing.specs.Rules.{Refusal, passed, refused, first_of}
use Rattle.order.specs.Patched.{Marks}
use Rattle.order.proofs.Unique.{judged_unique}
use Rattle.order.proofs.Propose.{proposed_unique}
use Rattle.patch.specs.Patching.{ask_rules, fit_rules}
use Rattle.say.specs.Lines.{JudgedLine, JudgeLine, OfferedLine, ProposedLine, ProposeLine, Lined, JudgeLinePromise, ProposeLinePromise}

judged_line_once : (f : Refusal) (q : ℕ) (L : Listing) (line line' : List ℕ) → JudgedLine f q L line → JudgedLine f q L line' → line ≡ line'
judged_line_once passed q L line line' h k =
    let e = judged_unique q L h.0 k.0 h.1 k.1 in
    cc
judged_line_once (refused n p) q L line line' h k = cc

-- THE JUDGE PROGRAM HAS ONE LINE
pub judge_line_once : (input line line' : List ℕ) → JudgeLine input line → JudgeLine input line' → line ≡ line'
judge_line_once [] line line' h k = cc
judge_line_once (q ∷ s) line line' h k = judged_line_once (first_of (ask_rules q s)) q (nodes_of s) line line' h k

offered_line_once : (f : Refusal) (ms : Marks) (line line' : List ℕ) → OfferedLine f ms line → OfferedLine f ms line' → line ≡ line'
offered_line_once passed ms line line' h k = cc
offered_line_once (refused n p) ms line line' h k = cc

proposed_line_once : (f : Refusal) (q : ℕ) (s line line' : List ℕ) → ProposedLine f q s line → ProposedLine f q s line' → line ≡ line'
proposed_line_once passed q s line line' h k =
    let e = proposed_unique q (nodes_of s) h.0 k.0 h.1 k.1 in
    offered_line_once (first_of (fit_rules s h.0)) h.0 line line' h.2
    (subst (λ (ms : Marks). OfferedLine (first_of (fit_rules s ms)) ms line') (sym e) k.2)
proposed_line_once (refused n p) q s line line' h k = cc

-- AND SO HAS THE PROPOSER
pub propose_line_once : (input line line' : List ℕ) → ProposeLine input line → ProposeLine input line' → line ≡ line'
propose_line_once [] line line' h k = cc
propose_line_once (q ∷ s) line line' h k = proposed_line_once (first_of (ask_rules q s)) q s line line' h k

pub lined_once : {line line' old new new' : List ℕ} {r r' : ℕ} → line ≡ line' → Lined line old new r → Lined line' old new' r' → (r ≡ r') × (new ≡ new')
lined_once e h k =
    let a = h.counts in
    let b = k.counts in
    let c = h.holds in
    let d = k.holds in
    (cc, cc)

-- ONE ANSWER AND ONE CONTENT
pub judge_says_once : (input old new new' : List ℕ) (r r' : ℕ)
    → JudgeLinePromise input old new r → JudgeLinePromise input old new' r' → (r ≡ r') × (new ≡ new')
judge_says_once input old new new' r r' h k = lined_once (judge_line_once input h.0 k.0 h.1 k.1) h.2 k.2

pub propose_says_once : (input old new new' : List ℕ) (r r' : ℕ)
    → ProposeLinePromise input old new r → ProposeLinePromise input old new' r' → (r ≡ r') × (new ≡ new')
propose_says_once input old new new' r r' h k = lined_once (propose_line_once input h.0 k.0 h.1 k.1) h.2 k.2
