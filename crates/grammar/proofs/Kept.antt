-- A reader keeps its text: what is said of a later place in it is said of the text that it had.
use mathlib.Core.Path.{◌≡◌, subst}
use mathlib.Core.List.{List}
use Prim.Native.Nat.{ℕ}
use Rattle.std.specs.Prelude.{Result}
use Rattle.words.specs.declared.Word.{Word as Said}
use Rattle.grammar.specs.declared.reader.Misplaced.{Misplaced}
use Rattle.grammar.specs.Inner.Reader.{Cursor, Looked, Met, ItemRead, BlockRead}

pub looked : {s : List ℕ} {at new : Cursor} {w : Said} → at.text ≡ s → Looked at.text at new w → Looked s at new w
looked {at = at} {new} {w} kept = subst (λ (t : List ℕ). Looked t at new w) kept

module _ (s : List ℕ) (at new : Cursor) (kept : at.text ≡ s) (r : Result Unit Misplaced) where
  pub met : (P : Said → Type 0) → Met P at.text at new r → Met P s at new r
  met P = subst (λ (t : List ℕ). Met P t at new r) kept

  pub item_read : (w : Said) (d : ℕ) → ItemRead at.text w d at new r → ItemRead s w d at new r
  item_read w d = subst (λ (t : List ℕ). ItemRead t w d at new r) kept

  pub block_read : (d : ℕ) → BlockRead at.text d at new r → BlockRead s d at new r
  block_read d = subst (λ (t : List ℕ). BlockRead t d at new r) kept
