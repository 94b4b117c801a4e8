-- What looking at the next word finds, over what the words say: none, or one and those after it.
use mathlib.Core.Path.{◌≡◌, refl, sym, ap, ◌∙◌, subst}
use mathlib.Core.Bool.{Bool, true, false}
use mathlib.Core.List.{List, [], ◌∷◌}
use Prim.Native.Nat.{ℕ, ◌<◌, ◌≤◌}
use native.Mathlib.Omega.{arith}
use lib.ListN.{drop_of_length-le}
use Rattle.words.specs.declared.Word.{Word as Said}
use Rattle.words.specs.declared.Word.TheVariants as said
use Rattle.words.specs.Inner.Looking.{unread, token_of, is_end, ahead}
use Rattle.words.proofs.Finding.{some_word}
use Rattle.grammar.specs.Inner.Reader.{Cursor, Looked}
use Rattle.grammar.proofs.Moves.{at_end}
use Rattle.text.specs.Inner.Pen.{tokens, location_of, location, located, exit_of, follows}

-- what holds of the end and of every other word holds of each word
by_end : {P : Type 0} (w : Said) → (w ≡ said.End → P) → ((w ≡ said.End → ⊥) → P) → P
by_end {P} w f g = go (is_end w) refl
  where
    go : (b : Bool) → is_end w ≡ b → P
    go true e = f (at_end w e)
    go false e = g (λ z. let same = ap is_end z in absurd cc)

-- what a reader of its own sees from the same place on
pub forked : {from at new : Cursor} {w : Said} → at ≡ from → Looked at.text at new w → Looked from.text from new w
forked {new = new} {w} e l = subst (λ (a : Cursor). Looked a.text a new w) e l

module _ {s : List ℕ} {old new : Cursor} {w : Said} (l : Looked s old new w) where
  pub look_none : w ≡ said.End → tokens s old.end ≡ []
  unfolding tokens ahead
  look_none e = rw (l.ahead.same, e)

  pub look_some : (w ≡ said.End → ⊥) → tokens s old.end ≡ token_of w ∷ tokens s new.end
  unfolding tokens ahead
  look_some h = rw (l.ahead.same, some_word w h)

  pub look_later : old.end ≤ new.end
  look_later = let a = l.ahead.later in let b = l.ahead.found.ordered in omega arith

  pub look_on : (w ≡ said.End → ⊥) → old.end < new.end
  look_on h = let a = l.ahead.later in let b = l.ahead.found.some h in omega arith

  pub end_none : w ≡ said.End → tokens s new.end ≡ []
  unfolding tokens unread
  end_none e =
      let a = l.ahead.found.none e in
      let b = l.ahead.found.ordered in
      rw (drop_of_length-le s {i = new.end} (omega arith))

  -- the location that it says, and what is after it
  pub look_location : location (tokens s old.end) ≡ location_of (token_of w)
  look_location = by_end w (λ e. ap location (look_none e) ∙ rw e) (λ h. ap location (look_some h))

  pub look_located : located (tokens s old.end) ≡ tokens s new.end
  look_located = by_end w (λ e. ap located (look_none e) ∙ sym (end_none e)) (λ h. ap located (look_some h))

  -- WHAT FOLLOWS IS THE BLOCK'S EXIT AT A `}`, AND THE NEXT ITEM ELSE
  module _ (k n : ℕ) where
    pub look_exit : w ≡ said.Close → follows k n (tokens s old.end) ≡ exit_of k
    look_exit e = rw (look_some (λ z. let two = sym z ∙ e in absurd cc), e)

    pub look_item : (w ≡ said.Close → ⊥) → follows k n (tokens s old.end) ≡ n
    look_item h = by_end w (λ e. ap (follows k n) (look_none e)) (λ z. ap (follows k n) (look_some z) ∙ other w h)
      where
        other : (j : Said) → (j ≡ said.Close → ⊥) → follows k n (token_of j ∷ tokens s new.end) ≡ n
        other j = elim j as (λ i. (i ≡ said.Close → ⊥) → follows k n (token_of i ∷ tokens s new.end) ≡ n) [
          | said.Close ↦ λ c. absurd (c refl)
          | _ ↦ λ c. refl
        ]
