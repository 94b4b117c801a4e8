-- The writer's ways: word by word, up to the text's end.
use mathlib.Core.Path.{◌≡◌, refl, ap, ◌∙◌, subst}
use mathlib.Core.List.{List, [], ◌++◌, append_assoc, append-nil}
use Prim.Native.Nat.{ℕ, ◌+◌, ◌%◌, ◌<◌, ◌≤◌}
use native.Mathlib.Omega.{arith}
use native.Mathlib.Decide.{ℕ_discrete, dec_lt}
use lib.ListN.{length, length-append}
use borrow.Author.Tests.{eq-eqb, ne_eqb, lt-ltb, le-ltb}
use Rattle.listing.specs.declared.kind.Kind.{Kind}
use Rattle.words.specs.Words.{Token, Routine, Loop, Either, Open, Close, Fence, Access, Number, Other}
use Rattle.words.specs.declared.Word.{Word as Said}
use Rattle.words.specs.declared.Word.TheVariants as said
use Rattle.words.specs.Inner.Looking.{token_of}
use Rattle.grammar.specs.Inner.Reader.{Cursor, cursor, Looked}
use Rattle.text.specs.Inner.Records.{Low}
use Rattle.text.specs.Inner.Pen.{tokens, pen, nodes_at, closed, after, run, written}
use Rattle.text.specs.Inner.Writer.{WordWritten, TextWrites, TextWritten}
use Rattle.text.specs.declared.pen.Pen.{Pen}
use Rattle.text.proofs.Every.{all_apart}
use Rattle.text.proofs.Records.{in_turn, room_for, still}
use Rattle.text.proofs.Looks.{look_none, look_some, look_on}
use Rattle.text.proofs.Wrote.{none_written}

-- ── One word ────────────────────────────────────────────────────────────────
-- the word k is neither an access nor a fence nor one of a loop or an either or a `}`
pub record Unwritten (k : Said) : Type 0 where
  pub access : (j : Kind) → k ≡ said.Access j → ⊥
  pub fence : k ≡ said.Fence → ⊥
  pub loop : k ≡ said.Loop → ⊥
  pub either : k ≡ said.Either → ⊥
  pub close : k ≡ said.Close → ⊥

pub other_written : {old : List ℕ} {p : Pen} {ws : List Token} (k : Said) → Unwritten k → WordWritten old old p p (token_of k) ws
unfolding nodes_at after
other_written {old} {p} {ws} k = elim k as (λ j. Unwritten j → WordWritten old old p p (token_of j) ws) [
  | said.Access j ↦ λ h. absurd (h.access j refl)
  | said.Fence ↦ λ h. absurd (h.fence refl)
  | said.Loop ↦ λ h. absurd (h.loop refl)
  | said.Either ↦ λ h. absurd (h.either refl)
  | said.Close ↦ λ h. absurd (h.close refl)
  | _ ↦ λ h. none_written refl refl
]

-- ── How far the pen goes on ─────────────────────────────────────────────────
-- by a node at the most, and by a part at the most
record Goes (p : Pen) (w : Token) (ws : List Token) : Type 0 where
  count : (after p w ws).number ≡ p.number + length (nodes_at p w ws)
  few : length (nodes_at p w ws) ≤ 1
  parted : (after p w ws).parts ≤ p.parts + 1

one_node : {p : Pen} {w : Token} {ws : List Token} → length (nodes_at p w ws) ≡ 1 → (after p w ws).number ≡ p.number + 1
    → (after p w ws).parts ≡ p.parts → Goes p w ws
one_node e n r = record { count = omega arith; few = omega arith; parted = omega arith }

no_node : {p : Pen} {w : Token} {ws : List Token} → length (nodes_at p w ws) ≡ 0 → (after p w ws).number ≡ p.number
    → (after p w ws).parts ≤ p.parts + 1 → Goes p w ws
no_node e n r = record { count = omega arith; few = omega arith; parted = r }

close_goes : (p : Pen) (ws : List Token) → Goes p Close ws
unfolding nodes_at after closed
close_goes p ws = go (ℕ_discrete p.exits 0) (ℕ_discrete (p.exits % 256) (p.number + 1)) (dec_lt (p.exits % 256) (p.number + 1))
  where
    go : Dec (p.exits ≡ 0) → Dec (p.exits % 256 ≡ p.number + 1) → Dec (p.exits % 256 < p.number + 1) → Goes p Close ws
    go (yes e) d1 d2 =
        no_node (rw (e, ne_eqb 0 (p.number + 1) (λ z. omega arith))) (rw e) (rw e (omega arith))
    go (no h) (yes e) d2 =
        let a = ne_eqb p.exits 0 h in
        let b = eq-eqb (p.exits % 256) (p.number + 1) e in
        one_node (rw b) (rw (a, b)) (rw (a, b))
    go (no h) (no k) (yes l) =
        let a = ne_eqb p.exits 0 h in
        let b = ne_eqb (p.exits % 256) (p.number + 1) k in
        let d = lt-ltb (p.exits % 256) (p.number + 1) l in
        no_node (rw b) (rw (a, b, d)) (rw (a, b, d) (omega arith))
    go (no h) (no k) (no l) =
        let a = ne_eqb p.exits 0 h in
        let b = ne_eqb (p.exits % 256) (p.number + 1) k in
        let d = le-ltb (p.exits % 256) (p.number + 1) (omega arith) in
        no_node (rw b) (rw (a, b, d)) (rw (a, b, d) (omega arith))

goes_on : (p : Pen) (w : Token) (ws : List Token) → Goes p w ws
unfolding nodes_at after
goes_on p (Access k) ws = one_node refl refl refl
goes_on p Fence ws = one_node refl refl refl
goes_on p Loop ws = one_node refl refl refl
goes_on p Either ws = one_node refl refl refl
goes_on p Close ws = close_goes p ws
goes_on p Routine ws = no_node refl refl (omega arith)
goes_on p Open ws = no_node refl refl (omega arith)
goes_on p (Number n) ws = no_node refl refl (omega arith)
goes_on p Other ws = no_node refl refl (omega arith)

-- ── The text ────────────────────────────────────────────────────────────────
pub text_starts : {s old : List ℕ} → TextWrites s old old (cursor s 0 0 0) (pen 0 0 0)
unfolding written
text_starts = record {
  text = refl;
  done = [];
  count = refl;
  same = refl;
  wrote = record { kept = refl; bytes = λ _ _. record { bytes = refl } };
  few = omega arith;
  parted = omega arith;
}

module _ {s old now : List ℕ} {at new : Cursor} {p : Pen} {k : Said} (so : TextWrites s old now at p) (l : Looked s at new k) where
  pub text_ends : k ≡ said.End → TextWritten s old now
  text_ends e =
      let all : written s ≡ so.done =
      so.same ∙ ap (λ (ws : List Token). so.done ++ run p ws) (look_none l e) ∙ append-nil so.done in
      record { wrote = rw all so.wrote }

  module _ (some : k ≡ said.End → ⊥) where
    -- ONE WORD MORE IS WRITTEN
    pub word_written : {q : Pen} {now' : List ℕ} → WordWritten now now' p q (token_of k) (tokens new.text new.end) → TextWrites s old now' new q
    word_written {q} {now'} x' =
        let x = subst (λ (t : List ℕ). WordWritten now now' p q (token_of k) (tokens t new.end)) l.text x' in
        let w = token_of k in
        let ws = tokens s new.end in
        let nodes = nodes_at p w ws in
        let g = goes_on p w ws in
        let number : q.number ≡ p.number + length nodes = ap (λ (r : Pen). r.number) x.goes ∙ g.count in
        let parts : q.parts ≤ p.parts + 1 = rw x.goes g.parted in
        let long = length-append so.done nodes in
        let count = so.count in
        let kept = so.wrote.kept in
        let on = look_on l some in
        let few = so.few in
        let most = g.few in
        let parted = so.parted in
        record {
          text = l.text;
          done = so.done ++ nodes;
          count = omega arith;
          same =
              so.same
              ∙ ap (λ (v : List Token). so.done ++ run p v) (look_some l some)
              ∙ rw (append_assoc, x.goes);
          wrote = record {
            kept = x.wrote.kept ∙ kept;
            bytes = λ room low.
                let (before, now-low) = all_apart Low so.done nodes low in
                let long' : p.number + length nodes ≡ 0 + length (so.done ++ nodes) = omega arith in
                in_turn (so.wrote.bytes (room_for 0 so.done nodes room) before) (x.wrote.bytes (still kept (rw long' room)) now-low) (omega arith);
          };
          few = omega arith;
          parted = omega arith;
        }
