-- The line of judge_patch's answer, for the map of the nodes named, is the acceptor's line.
use mathlib.Core.Path.{◌≡◌, refl, sym, ap, subst, subst₂, ◌∙◌}
use mathlib.Core.List.{List, [], ◌∷◌, ◌++◌, append_assoc}
use Prim.Native.Nat.{ℕ, ◌+◌, ◌-◌, ◌≤◌, min}
use native.Mathlib.Decide.{dec_le}
use native.Mathlib.Omega.{arith}
use borrow.Rule.Slice.PartMut.{mid_of}
use lib.ListN.{length, take, drop, length-drop, drop_of_length-le}
use Rattle.std.specs.Prelude.{Result, Ok}
use lib.Seq.{take_all, drop-drop}
use Rattle.listing.specs.Node.{Listing}
use Rattle.listing.specs.Bytes.{byte}
use Rattle.listing.specs.Rules.{Refusal, passed, refused, first_of}
use Rattle.listing.specs.Answer.{filled}
use Rattle.listing.specs.Ascii.{bytes}
use Rattle.listing.specs.declared.reason.Reason.{Reason}
use Rattle.order.specs.Verdict.{Verdict, robust, opened}
use Rattle.verdict.specs.declared.Verdict.{Verdict as Decided}
use Rattle.verdict.specs.declared.Verdict.TheVariants.{Robust, Open}
use Rattle.verdict.specs.Judging.{question_rules, buffer_rules, CHAIN, judge_says, verdict_says, verdict_bytes, Judging}
use Rattle.verdict.proofs.Refusing.{buffer_passes}
use Rattle.verdict.proofs.Promise.{says_once}
use Rattle.patch.specs.Patching.{patch_rules, judge_patch_rules, JudgePatchPromise}
use Rattle.patch.proofs.MapRules.{patched_of}
use Rattle.say.specs.Lines.{refusal_line}
use Rattle.say.proofs.Judging.{before_passing, refusal_told, verdict_line_lem}
use Rattle.acceptance.specs.Accept.{map_of, accepted_line, PatchedLine, accept_rules, NamedLine, AcceptLine, AcceptLinePromise}
use Rattle.acceptance.specs.Inner.Naming.{answer_line, NamedLined}

-- a chain buffer that is long enough is never refused
asked : (q : ℕ) (s map old : List ℕ) → CHAIN ≤ length old → first_of (judge_patch_rules q s map old) ≡ first_of (accept_rules q s map)
unfolding judge_patch_rules
asked q s map old h =
    ap first_of (sym (append_assoc (question_rules q) (patch_rules s map) (buffer_rules CHAIN old)))
    ∙ before_passing (question_rules q ++ patch_rules s map) (buffer_rules CHAIN old) (buffer_passes CHAIN old h)

verdict_accepted : (v : Verdict) (r : Result Decided Reason) (old new : List ℕ)
    → judge_says r ≡ verdict_says v → new ≡ filled (verdict_bytes v) old → answer_line r new ≡ accepted_line v
verdict_accepted robust r old new e w = ap (λ (x : Result Decided Reason). answer_line x new) (says_once r (Ok Robust) e)
verdict_accepted (opened p rest) r old new e w =
    let answer : Result Decided Reason = Ok (Open p.0 p.1 (length (p ∷ rest))) in
    ap (λ (x : Result Decided Reason). answer_line x new) (says_once r answer e) ∙ verdict_line_lem (opened p rest) answer old new refl w

patched_line : (f : Refusal) (q : ℕ) (L : Listing) (old new : List ℕ) (r : Result Decided Reason)
    → Judging f q L old new (judge_says r) → PatchedLine f q L (answer_line r new)
patched_line passed q L old new r t = (t.verdict, t.judged, verdict_accepted t.verdict r old new t.says t.writes)
patched_line (refused k p) q L old new r h = refusal_told (bytes "ACCEPTED\n") k p r new h.0

-- OF A QUESTION, A LISTING AND THE NODES NAMED
pub named_line : (q : ℕ) (s ks map old new : List ℕ) (r : Result Decided Reason)
    → map ≡ map_of s ks → CHAIN ≤ length old → JudgePatchPromise q s map old new (judge_says r) → NamedLine q s ks (answer_line r new)
named_line q s ks map old new r e h p =
    let of = subst (λ (f : Refusal). Judging f q (patched_of s map) old new (judge_says r)) (asked q s map old h) p in
    subst (λ (m : List ℕ). PatchedLine (first_of (accept_rules q s m)) q (patched_of s m) (answer_line r new)) e
    (patched_line (first_of (accept_rules q s map)) q (patched_of s map) old new r of)

-- ── The parts of an input ───────────────────────────────────────────────────
-- n bytes, or as many as there are
module _ (n : ℕ) (l : List ℕ) where
  most : (take (min n (length l)) l ≡ take n l) × (drop (min n (length l)) l ≡ drop n l)
  most = of (dec_le n (length l))
    where
      of : Dec (n ≤ length l) → (take (min n (length l)) l ≡ take n l) × (drop (min n (length l)) l ≡ drop n l)
      of (yes h) =
          let e : min n (length l) ≡ n = omega arith in
          (ap (λ (k : ℕ). take k l) e, ap (λ (k : ℕ). drop k l) e)
      of (no h) =
          let m = min n (length l) in (
            take_all m l (omega arith) ∙ sym (take_all n l (omega arith)),
            drop_of_length-le l {i = m} (omega arith) ∙ sym (drop_of_length-le l {i = n} (omega arith)),
          )

-- those from a on, up to b, and what follows them
module _ (l : List ℕ) (a b n : ℕ) (low : a ≤ length l) (end : b ≡ min (a + n) (length l)) where
  abbrev kept : ℕ
  kept = min n (length (drop a l))

  middle : mid_of a (b - a) l ≡ take n (drop a l)
  middle =
      let size : b - a ≡ kept = omega (arith, length-drop a l) in
      ap (λ (k : ℕ). take k (drop a l)) size ∙ (most n (drop a l)).0

  behind : mid_of b (length l - b) l ≡ drop n (drop a l)
  behind =
      let at : b ≡ a + kept = omega (arith, length-drop a l) in
      take_all (length l - b) (drop b l) (omega (arith, length-drop b l))
      ∙ ap (λ (k : ℕ). drop k l) at
      ∙ sym (drop-drop kept a l)
      ∙ (most n (drop a l)).1

-- THE ACCEPTOR'S LINE, where the input has a question
pub accept_line : (input : List ℕ) (q a b : ℕ) {old new : List ℕ} {r : ℕ}
    → (length input ≡ 0 → ⊥) → q ≡ byte input 0 → a ≡ min 2 (length input) → b ≡ min (a + byte input 1) (length input)
    → NamedLined q (mid_of b (length input - b) input) (mid_of a (b - a) input) old new r → AcceptLinePromise input old new r
accept_line [] q a b some e ea eb l = absurd (some refl)
accept_line (x ∷ rest) q a b some e ea eb l =
    let all = x ∷ rest in
    let low : a ≤ length all = omega arith in
    let two : drop a all ≡ drop 1 rest = ap (λ (k : ℕ). drop k all) ea ∙ (most 2 all).1 in
    let nodes = middle all a b (byte rest 0) low eb ∙ ap (take (byte rest 0)) two in
    let listing = behind all a b (byte rest 0) low eb ∙ ap (drop (byte rest 0)) two in
    let of = subst₂ (λ (s ks : List ℕ). NamedLine q s ks l.line) listing nodes l.says in
    (l.line, subst (λ (y : ℕ). NamedLine y (drop (byte rest 0) (drop 1 rest)) (take (byte rest 0) (drop 1 rest)) l.line) e of, l.lined)
