-- An input that is cut off behind the longest listing and one byte more has the same line: what is left is still too long.
use mathlib.Core.Path.{◌≡◌, refl, sym, ap, subst, ◌∙◌}
use mathlib.Core.Logic.{◌↔◌}
use mathlib.Core.Bool.{Bool, true, false, not, cond}
use mathlib.Core.List.{List, [], ◌∷◌, ◌++◌}
use Prim.Native.Nat.{ℕ, ◌+◌, ◌≤◌, ◌<◌}
use native.Mathlib.Omega.{arith}
use borrow.Author.Tests.{le-ltb, ltb-false, leb-true, leb-false, ne_eqb}
use lib.ListN.{length, take, drop, take-append-drop, get_or-append}
use lib.Dec.{ltb, leb, eqb}
use lib.Seq.{take_all, length-take-le}
use Rattle.listing.specs.Limits.{NODES, HEADING}
use Rattle.listing.specs.Kinds.{is_version}
use Rattle.listing.specs.Bytes.{byte, version_of, count_n, record_at, nodes_of}
use Rattle.listing.specs.Rules.{Rule, Refusal, passed, refused, first_of}
use Rattle.listing.specs.Form.{wrong_mark, wrong_f, heading_rules, nodes_rules, form_rules}
use Rattle.listing.specs.Inner.Numbered.{or_else}
use Rattle.listing.proofs.Table.{first_of_append}
use Rattle.reader.specs.Read.{dead_rules, read_rules}
use Rattle.verdict.specs.Judging.{question_rules}
use Rattle.patch.specs.Patching.{ask_rules}
use Rattle.say.specs.Lines.{JudgedLine, JudgeLine, ProposedLine, ProposeLine, INPUT}

-- ── Where a table refuses, what follows it does not matter ──────────────────
abbrev pub Refuses : Refusal → Type 0
Refuses passed = ⊥
Refuses (refused k p) = Unit

row_refuses : (b : Bool) (k p : ℕ) (y : Refusal) → Refuses y → Refuses (cond b (refused k p) y)
row_refuses true k p y h = tt
row_refuses false k p y h = h

nothing_follows : (x y : Refusal) → Refuses x → or_else x y ≡ x
nothing_follows passed y h = absurd h
nothing_follows (refused k p) y h = refl

one_refuses : (x y : Refusal) → Refuses y → Refuses (or_else x y)
one_refuses passed y h = h
one_refuses (refused k p) y h = tt

-- ── A listing that is too long ──────────────────────────────────────────────
-- what is refused of it: 3 to 6, or else 7
abbrev refusal_of : List ℕ → Refusal
refusal_of s =
    cond (wrong_mark s) (refused 3 0)
    (cond (not (is_version (version_of s))) (refused 4 0) (cond (wrong_f s) (refused 5 0) (cond (ltb NODES (count_n s)) (refused 6 0) (refused 7 0))))

refuses : (s : List ℕ) → Refuses (refusal_of s)
refuses s =
    row_refuses (wrong_mark s) 3 0 _
    (row_refuses (not (is_version (version_of s))) 4 0 _ (row_refuses (wrong_f s) 5 0 _ (row_refuses (ltb NODES (count_n s)) 6 0 _ tt)))

-- row 7 applies where row 6 does not
seven : (s : List ℕ) (n : ℕ) → record_at NODES < length s
    → cond (ltb NODES n) (refused 6 0) (cond (not (eqb (length s) (record_at n))) (refused 7 0) passed) ≡ cond (ltb NODES n) (refused 6 0) (refused 7 0)
seven s n h = of (ltb NODES n) refl
  where
    of : (b : Bool) → ltb NODES n ≡ b
        → cond b (refused 6 0) (cond (not (eqb (length s) (record_at n))) (refused 7 0) passed) ≡ cond b (refused 6 0) (refused 7 0)
    of true e = refl
    of false e =
        let few = ltb-false NODES n e in
        ap (λ (t : Bool). cond (not t) (refused 7 0) passed) (ne_eqb (length s) (record_at n) (λ same. omega (arith, h, few, same)))

heading : (s : List ℕ) → record_at NODES < length s → first_of (heading_rules s) ≡ refusal_of s
unfolding heading_rules
heading s h =
    let after : Refusal → Refusal =
    λ y. cond (wrong_mark s) (refused 3 0) (cond (not (is_version (version_of s))) (refused 4 0) (cond (wrong_f s) (refused 5 0) y)) in
    let n = count_n s in
    let rest = cond (ltb NODES n) (refused 6 0) (cond (not (eqb (length s) (record_at n))) (refused 7 0) passed) in
    ap (λ (b : Bool). cond b (refused 2 0) (after rest)) (le-ltb (length s) HEADING (omega (arith, h))) ∙ ap after (seven s n h)

-- its heading alone says which
front : (a d : List ℕ) → HEADING ≤ length a → refusal_of (a ++ d) ≡ refusal_of a
unfolding wrong_mark wrong_f
front a d h =
    let at : (i : ℕ) → i < HEADING → byte (a ++ d) i ≡ byte a i = λ i k. get_or-append a d 0 i (omega (arith, h, k)) in
    rw (at 0 (omega arith), at 1 (omega arith), at 2 (omega arith), at 3 (omega arith), at 4 (omega arith), at 5 (omega arith), at 6 (omega arith)) refl

-- and no rule that follows
before : (s : List ℕ) (first rest : List Rule) → first_of first ≡ refusal_of s → first_of (first ++ rest) ≡ refusal_of s
before s first rest e =
    first_of_append first rest
    ∙ ap (λ (x : Refusal). or_else x (first_of rest)) e
    ∙ nothing_follows (refusal_of s) (first_of rest) (refuses s)

listing_refused : (s : List ℕ) → record_at NODES < length s → first_of (read_rules s) ≡ refusal_of s
unfolding read_rules form_rules
listing_refused s h =
    before s (heading_rules s ++ nodes_rules s 0 (count_n s)) (dead_rules (nodes_of s) 0 (count_n s))
    (before s (heading_rules s) (nodes_rules s 0 (count_n s)) (heading s h))

asked_refused : (q : ℕ) (s : List ℕ) → record_at NODES < length s → first_of (ask_rules q s) ≡ or_else (first_of (question_rules q)) (refusal_of s)
unfolding ask_rules
asked_refused q s h = first_of_append (question_rules q) (read_rules s) ∙ ap (or_else (first_of (question_rules q))) (listing_refused s h)

-- ── The cut ─────────────────────────────────────────────────────────────────
-- what must be kept of a listing
abbrev pub KEPT : ℕ
KEPT = record_at NODES + 1

-- k bytes are kept, of a line that does not look at a refused listing
module _ (Line : Refusal → List ℕ → Type 0) (blind : (f : Refusal) (s t : List ℕ) → Refuses f → Line f s → Line f t)
    (q : ℕ) (s : List ℕ) (k : ℕ) (enough : KEPT ≤ k) where
  abbrev Of : List ℕ → Type 0
  Of t = Line (first_of (ask_rules q t)) t

  long : k ≤ length s → Of (take k s) ↔ Of s
  long h =
      let t = take k s in
      let size : length t ≡ k = length-take-le k s h in
      let a = asked_refused q t (omega (arith, size)) in
      let b = asked_refused q s (omega (arith, h)) in
      let same : refusal_of s ≡ refusal_of t = ap refusal_of (sym (take-append-drop k s)) ∙ front t (drop k s) (omega (arith, size)) in
      let e : first_of (ask_rules q t) ≡ first_of (ask_rules q s) = a ∙ ap (or_else (first_of (question_rules q))) (sym same) ∙ sym b in
      let refused-s = subst Refuses (sym b) (one_refuses (first_of (question_rules q)) (refusal_of s) (refuses s)) in
      let refused-t = subst Refuses (sym e) refused-s in (
        λ x. blind (first_of (ask_rules q s)) t s refused-s (subst (λ (f : Refusal). Line f t) e x),
        λ x. blind (first_of (ask_rules q t)) s t refused-t (subst (λ (f : Refusal). Line f s) (sym e) x),
      )

  pub cut : Of (take k s) ↔ Of s
  cut = of (leb k (length s)) refl
    where
      of : (b : Bool) → leb k (length s) ≡ b → Of (take k s) ↔ Of s
      of true e = long (leb-true k (length s) e)
      of false e =
          let whole = take_all k s (omega (arith, leb-false k (length s) e)) in
          (subst Of whole, subst Of (sym whole))

judge_blind : (q : ℕ) (line : List ℕ) (f : Refusal) (s t : List ℕ) → Refuses f → JudgedLine f q (nodes_of s) line → JudgedLine f q (nodes_of t) line
judge_blind q line passed s t r h = absurd r
judge_blind q line (refused k p) s t r h = h

propose_blind : (q : ℕ) (line : List ℕ) (f : Refusal) (s t : List ℕ) → Refuses f → ProposedLine f q s line → ProposedLine f q t line
propose_blind q line passed s t r h = absurd r
propose_blind q line (refused k p) s t r h = h

-- THE FIRST BYTES DECIDE the judge program's line
pub judge_cut : (input line : List ℕ) → JudgeLine (take INPUT input) line ↔ JudgeLine input line
judge_cut [] line = (λ h. h, λ h. h)
judge_cut (q ∷ s) line = cut (λ f t. JudgedLine f q (nodes_of t) line) (judge_blind q line) q s KEPT (omega arith)

-- and the proposer's
pub propose_cut : (input line : List ℕ) → ProposeLine (take INPUT input) line ↔ ProposeLine input line
propose_cut [] line = (λ h. h, λ h. h)
propose_cut (q ∷ s) line = cut (λ f t. ProposedLine f q t line) (propose_blind q line) q s KEPT (omega arith)
