-- The text reader's ways out: what it answers is what the grammar says of the whole text.
use mathlib.Core.Path.{◌≡◌, refl, sym, ◌∙◌}
use mathlib.Core.List.{List}
use Prim.Native.Nat.{ℕ, ◌+◌, ◌<◌}
use native.Mathlib.Omega.{arith}
use Rattle.std.specs.Prelude.{Ok, Err}
use Rattle.listing.specs.declared.reason.Reason.TheVariants as reasons
use Rattle.words.specs.Inner.Looking.{ahead}
use Rattle.words.specs.declared.Word.{Word as Said}
use Rattle.words.specs.declared.Word.TheVariants as said
use Rattle.grammar.specs.declared.reader.Misplaced.{Misplaced}
use Rattle.grammar.specs.Tree.{nothing, part, DEPTH}
use Rattle.grammar.specs.Inner.Reader.{of_part, between, opening, parse, from, from_word, Cursor, cursor, word_of, Looked, BlockRead, TextRead, TextGoes}
use Rattle.words.proofs.Finding.{some_word}
use Rattle.grammar.proofs.Moves.{led, left, no_routine}
use Rattle.grammar.proofs.Items.{no_end}

pub text_begins : (s : List ℕ) → TextGoes s (cursor s 0 0 0) 0
unfolding parse
text_begins s =
    record {
      of = refl;
      text = nothing;
      parted = refl;
      nodes = refl;
      few = omega arith;
      within = omega arith;
      same = refl;
    }

-- after f parts, at the word w looked at next
module _ (s : List ℕ) (at : Cursor) (f : ℕ) (goes : TextGoes s at f) (w : Said) (mid : Cursor) (l : Looked s at mid w) where
  so_far : parse s ≡ from_word s (between goes.text) (word_of w mid)
  so_far = goes.same ∙ rw l.ahead.same

  pub text_bad : (w ≡ said.End → ⊥) → (w ≡ said.Routine → ⊥) → TextRead s (Err (reasons.Text mid.start))
  unfolding ahead
  text_bad z h = (mid.start, refl, so_far ∙ rw (some_word w z, no_routine goes.text w h))

  -- ALL PARTS ARE READ
  pub text_ends : w ≡ said.End → TextRead s (Ok (record { parts = f; nodes = mid.passed }))
  text_ends e =
      (goes.text, goes.parted, goes.nodes ∙ sym l.passed, so_far ∙ left s (word_of w mid) (between goes.text) e)

  module _ (e : w ≡ said.Routine) where
    into_part : parse s ≡ from s (opening (of_part goes.text)) mid.end
    into_part = so_far ∙ led s (word_of w mid) (between goes.text) said.Routine e refl

    past : at.end < mid.end
    past = let some = l.ahead.found.some (no_end said.Routine e refl) in let on = l.ahead.later in omega arith

    pub part_bad : {q : Misplaced} (new : Cursor) → BlockRead s DEPTH mid new (Err q) → TextRead s (Err (reasons.Text new.start))
    part_bad new (text, h) = (new.start, refl, into_part ∙ h (of_part goes.text) refl)

    pub part_read : (new : Cursor) → BlockRead s DEPTH mid new (Ok tt) → TextGoes s new (f + 1)
    part_read new (b, kept, size, far, within, span) =
        let on = past in
        record {
          of = kept;
          text = part goes.text b;
          parted = rw goes.parted;
          nodes = omega (arith, l.passed, goes.nodes);
          few = omega (arith, goes.few);
          within = within;
          same = into_part ∙ span.same (of_part goes.text) refl;
        }
