-- The promises of judging with a map, proposing and writing each leave one answer and one content of the lent buffer.
use mathlib.Core.Path.{◌≡◌, sym, ap, subst}
use mathlib.Core.List.{List}
use Prim.Native.Nat.{ℕ}
use native.Mathlib.Omega.{arith}
use Rattle.std.specs.Prelude.{Result, Ok, Err}
use Rattle.listing.specs.Bytes.{nodes_of}
use Rattle.listing.specs.Rules.{Refusal, passed, refused, first_of}
use Rattle.listing.specs.Answer.{Answer}
use Rattle.listing.specs.declared.reason.Reason.{Reason}
use Rattle.listing.proofs.Reasons.{reasons_apart}
use Rattle.order.specs.Patched.{Marks}
use Rattle.order.proofs.Propose.{proposed_unique}
use Rattle.verdict.specs.declared.Verdict.{Verdict as Decided}
use Rattle.verdict.specs.Judging.{judge_says}
use Rattle.verdict.proofs.Promise.{one_kind, says_once, judging_once}
use Rattle.patch.specs.Patching.{
  judge_patch_rules,
  JudgePatchPromise,
  number_says,
  propose_says,
  ask_rules,
  offer_rules,
  Offered,
  Proposing,
  ProposePromise,
  write_says,
  write_rules,
  Writing,
  WritePromise,
}
use Rattle.patch.proofs.MapRules.{patched_of}

-- JUDGE_PATCH'S PROMISE IS UNIQUE
pub judge_patch_once : (q : ℕ) (s map old new new' : List ℕ) (r r' : Result Decided Reason)
    → JudgePatchPromise q s map old new (judge_says r) → JudgePatchPromise q s map old new' (judge_says r') → (r ≡ r') × (new ≡ new')
judge_patch_once q s map old new new' r r' h k =
    let o = judging_once (first_of (judge_patch_rules q s map old)) q (patched_of s map) old new new' (judge_says r) (judge_says r') h k in
    (says_once r r' o.0, o.1)

-- two answers that say the same are the same
number_says_once : (r r' : Result ℕ Reason) → number_says r ≡ number_says r' → r ≡ r'
number_says_once (Ok n) (Ok n') e = ap Ok (ap (λ (x : Answer). x.count) e)
number_says_once (Ok n) (Err r) e = absurd (omega (arith, one_kind e))
number_says_once (Err r) (Ok n) e = absurd (omega (arith, one_kind e))
number_says_once (Err r) (Err r') e = ap Err (reasons_apart r r' (ap (λ (x : Answer). x.first) e) (ap (λ (x : Answer). x.second) e))

pub propose_says_once : (r r' : Result ℕ Reason) → propose_says r ≡ propose_says r' → r ≡ r'
propose_says_once r r' e = number_says_once r r' e

offered_once : (f : Refusal) (ms : Marks) (old new new' : List ℕ) (r r' : Answer) → Offered f ms old new r → Offered f ms old new' r' → (r ≡ r') × (new ≡ new')
offered_once passed ms old new new' r r' h k = (cc, cc)
offered_once (refused n p) ms old new new' r r' h k = (cc, cc)

proposing_once : (f : Refusal) (q : ℕ) (s old new new' : List ℕ) (r r' : Answer)
    → Proposing f q s old new r → Proposing f q s old new' r' → (r ≡ r') × (new ≡ new')
proposing_once passed q s old new new' r r' h k =
    let e = proposed_unique q (nodes_of s) h.0 k.0 h.1 k.1 in
    offered_once (first_of (offer_rules s h.0 old)) h.0 old new new' r r' h.2
    (subst (λ (ms : Marks). Offered (first_of (offer_rules s ms old)) ms old new' r') (sym e) k.2)
proposing_once (refused n p) q s old new new' r r' h k = (cc, cc)

-- PROPOSE'S PROMISE IS UNIQUE
pub propose_once : (q : ℕ) (s old new new' : List ℕ) (r r' : Result ℕ Reason)
    → ProposePromise q s old new (propose_says r) → ProposePromise q s old new' (propose_says r') → (r ≡ r') × (new ≡ new')
propose_once q s old new new' r r' h k =
    let o = proposing_once (first_of (ask_rules q s)) q s old new new' (propose_says r) (propose_says r') h k in
    (propose_says_once r r' o.0, o.1)

writing_once : (f : Refusal) (s map old new new' : List ℕ) (r r' : Answer) → Writing f s map old new r → Writing f s map old new' r' → (r ≡ r') × (new ≡ new')
writing_once passed s map old new new' r r' h k = (cc, cc)
writing_once (refused n p) s map old new new' r r' h k = (cc, cc)

-- WRITE'S PROMISE IS UNIQUE
pub write_once : (s map old new new' : List ℕ) (r r' : Result ℕ Reason)
    → WritePromise s map old new (write_says r) → WritePromise s map old new' (write_says r') → (r ≡ r') × (new ≡ new')
write_once s map old new new' r r' h k =
    let o = writing_once (first_of (write_rules s map old)) s map old new new' (write_says r) (write_says r') h k in
    (number_says_once r r' o.0, o.1)
