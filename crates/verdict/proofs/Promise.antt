-- Judge's promise leaves one answer and one content of the chain buffer.
use mathlib.Core.Path.{◌≡◌, refl, sym, ap, ◌∙◌}
use mathlib.Core.Bool.{cond}
use mathlib.Core.List.{List}
use Prim.Native.Nat.{ℕ, ◌<◌}
use native.Mathlib.Omega.{arith}
use Rattle.std.specs.Prelude.{Result, Ok, Err}
use lib.Dec.{eqb}
use Rattle.listing.specs.Node.{Listing}
use Rattle.listing.specs.Bytes.{nodes_of}
use Rattle.listing.specs.Rules.{Refusal, passed, refused, first_of}
use Rattle.listing.specs.Answer.{Answer}
use Rattle.listing.specs.declared.reason.Reason.{Reason}
use Rattle.listing.proofs.Reasons.{reasons_apart}
use Rattle.order.proofs.Unique.{judged_unique}
use Rattle.verdict.specs.declared.Verdict.{Verdict as Decided}
use Rattle.verdict.specs.declared.Verdict.TheVariants.{Robust, Open}
use Rattle.verdict.specs.Judging.{judge_rules, decided_says, judge_says, Judging, JudgePromise}

-- equal answers are of one kind
pub one_kind : {x y : Answer} → x ≡ y → x.kind ≡ y.kind
one_kind e = ap (λ (x : Answer). x.kind) e

-- the verdict that says it
unsaid : Answer → Decided
unsaid x = cond (eqb x.kind 0) Robust (Open x.first x.second x.count)

said_back : (v : Decided) → unsaid (decided_says v) ≡ v
unfolding unsaid
said_back Robust = refl
said_back (Open a b n) = refl

-- a verdict says no refusal
no_refusal : (v : Decided) → (decided_says v).kind < 2
no_refusal Robust = omega arith
no_refusal (Open a b n) = omega arith

-- two answers that say the same are the same
pub says_once : (r r' : Result Decided Reason) → judge_says r ≡ judge_says r' → r ≡ r'
says_once (Ok v) (Ok v') e = ap Ok (sym (said_back v) ∙ ap unsaid e ∙ said_back v')
says_once (Ok v) (Err r) e = absurd (omega (arith, one_kind e, no_refusal v))
says_once (Err r) (Ok v) e = absurd (omega (arith, one_kind e, no_refusal v))
says_once (Err r) (Err r') e = ap Err (reasons_apart r r' (ap (λ (x : Answer). x.first) e) (ap (λ (x : Answer). x.second) e))

-- ONE ANSWER AND ONE CONTENT, whatever is refused
pub judging_once : (f : Refusal) (q : ℕ) (L : Listing) (old new new' : List ℕ) (r r' : Answer)
    → Judging f q L old new r → Judging f q L old new' r' → (r ≡ r') × (new ≡ new')
judging_once passed q L old new new' r r' h k =
    let e : h.verdict ≡ k.verdict = judged_unique q L h.verdict k.verdict h.judged k.judged in
    (cc, cc)
judging_once (refused n p) q L old new new' r r' h k = (cc, cc)

-- JUDGE'S PROMISE IS UNIQUE
pub judge_once : (q : ℕ) (s old new new' : List ℕ) (r r' : Result Decided Reason)
    → JudgePromise q s old new (judge_says r) → JudgePromise q s old new' (judge_says r') → (r ≡ r') × (new ≡ new')
judge_once q s old new new' r r' h k =
    let o = judging_once (first_of (judge_rules q s old)) q (nodes_of s) old new new' (judge_says r) (judge_says r') h k in
    (says_once r r' o.0, o.1)
