-- A reader's way past a block, word by word.
use mathlib.Core.Path.{◌≡◌, refl, sym, ap, ◌∙◌, subst}
use mathlib.Core.List.{List, ◌∷◌}
use Prim.Native.Nat.{ℕ, zero, suc, ◌+◌, ◌-◌, ◌<◌, ◌≤◌}
use native.Mathlib.Nat.{add-zero}
use native.Mathlib.Omega.{arith}
use Rattle.words.specs.Words.{Token, Close}
use Rattle.words.specs.declared.Word.{Word as Said}
use Rattle.words.specs.declared.Word.TheVariants as said
use Rattle.words.specs.Inner.Looking.{token_of}
use Rattle.grammar.specs.Inner.Reader.{Cursor, Looked, Passed}
use Rattle.text.specs.Inner.Pen.{tokens, makes, beyond, past, Passing, PastBlock}
use Rattle.text.proofs.Looks.{look_none, look_some, look_later, look_on, end_none}

-- ── One word ────────────────────────────────────────────────────────────────
close_last : (ws : List Token) (o n : ℕ) → o ≤ 1 → past (Close ∷ ws) o n ≡ beyond n ws
close_last ws zero n h = refl
close_last ws (suc zero) n h = refl
close_last ws (suc (suc o)) n h = absurd (omega arith)

close_inner : (ws : List Token) (o n : ℕ) → 1 < o → past (Close ∷ ws) o n ≡ past ws (o - 1) n
close_inner ws zero n h = absurd (omega arith)
close_inner ws (suc zero) n h = absurd (omega arith)
close_inner ws (suc (suc o)) n h = let e : suc (suc o) - 1 ≡ suc o = omega arith in rw e

-- a word that is no brace
other_past : (k : Said) (ws : List Token) (o n : ℕ) → (k ≡ said.Open → ⊥) → (k ≡ said.Close → ⊥)
    → past (token_of k ∷ ws) o n ≡ past ws o (n + makes (token_of k))
other_past k ws o n = elim k as (λ j. (j ≡ said.Open → ⊥) → (j ≡ said.Close → ⊥) → past (token_of j ∷ ws) o n ≡ past ws o (n + makes (token_of j))) [
  | said.Open ↦ λ a b. absurd (a refl)
  | said.Close ↦ λ a b. absurd (b refl)
  | said.Fence ↦ λ a b. refl
  | said.Access k ↦ λ a b. refl
  | _ ↦ λ a b. ap (past ws o) (sym (add-zero n))
]

pub makes_few : (k : Said) → makes (token_of k) ≤ 1
makes_few k = elim k as (λ j. makes (token_of j) ≤ 1) [
  | said.End ↦ omega arith
  | _ ↦ omega arith
]

-- a way past a block from the same place on, and in the same text
pub forked_past : {from at new : Cursor} → at ≡ from → PastBlock at.text at new → PastBlock from.text from new
forked_past {new = new} e x = subst (λ (a : Cursor). PastBlock a.text a new) e x

pub past_on : {s : List ℕ} {at new : Cursor} → at.text ≡ s → PastBlock at.text at new → PastBlock s at new
past_on {at = at} {new} e x = subst (λ (t : List ℕ). PastBlock t at new) e x

module _ {s : List ℕ} {old at new : Cursor} {o : ℕ} {w : Said} (so : Passing s old at o) (l : Looked s at new w) where
  ends : past (tokens s at.end) o at.passed ≡ beyond at.passed (tokens s new.end) → PastBlock s old new
  ends e = record {
    text = l.text;
    same = so.same ∙ e ∙ ap (λ (n : ℕ). beyond n (tokens s new.end)) (sym l.passed);
  }

  pub past_nothing : w ≡ said.End → PastBlock s old new
  past_nothing e = ends (ap (λ (ws : List Token). past ws o at.passed) (look_none l e) ∙ ap (beyond at.passed) (sym (end_none l e)))

  module _ (e : w ≡ said.Close) where
    read_close : tokens s at.end ≡ Close ∷ tokens s new.end
    read_close = look_some l (λ z. let two = sym z ∙ e in absurd cc) ∙ rw e

    pub past_last : o ≤ 1 → PastBlock s old new
    past_last h = ends (ap (λ (ws : List Token). past ws o at.passed) read_close ∙ close_last (tokens s new.end) o at.passed h)

    pub past_inner : 1 < o → Passing s old new (o - 1)
    past_inner h =
        let a = so.less in
        let b = look_later l in
        record {
          text = l.text;
          same =
              so.same
              ∙ ap (λ (ws : List Token). past ws o at.passed) read_close
              ∙ close_inner (tokens s new.end) o at.passed h
              ∙ ap (past (tokens s new.end) (o - 1)) (sym l.passed);
          less = omega arith;
        }

  -- A WORD THAT MAY COUNT FOR A NODE
  module _ (some : w ≡ said.End → ⊥) {r : ℕ} (few : r ≤ 1) where
    pub room : new.passed + r ≤ new.end
    room = let a = l.few in let b = look_on l some in let e = l.passed in omega arith

    counts : {newer : Cursor} (o' : ℕ) → Passed new r newer → o' ≤ o + 1
        → past (token_of w ∷ tokens s new.end) o at.passed ≡ past (tokens s new.end) o' (at.passed + r)
        → Passing s old newer o'
    counts {newer} o' p h e =
        let a = so.less in
        let b = look_on l some in
        let q = p.end in
        let f = p.passed in
        let g = l.passed in
        let n : at.passed + r ≡ newer.passed = omega arith in
        record {
          text = p.text ∙ l.text;
          same =
              so.same
              ∙ ap (λ (ws : List Token). past ws o at.passed) (look_some l some)
              ∙ e
              ∙ rw (q, n);
          less = omega arith;
        }

    pub past_open : {newer : Cursor} → Passed new r newer → w ≡ said.Open → r ≡ 1 → Passing s old newer (o + 1)
    past_open p e one =
        let up : suc o ≡ o + 1 = omega arith in
        counts (o + 1) p (omega arith) (rw (e, one, ← up))

    pub past_other : {newer : Cursor} → Passed new r newer → r ≡ makes (token_of w) → (w ≡ said.Open → ⊥) → (w ≡ said.Close → ⊥)
        → Passing s old newer o
    past_other p e no_open no-close =
        counts o p (omega arith)
        (other_past w (tokens s new.end) o at.passed no_open no-close
        ∙ ap (λ (k : ℕ). past (tokens s new.end) o (at.passed + k)) (sym e))
