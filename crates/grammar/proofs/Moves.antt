-- How a state goes on at the word found: it moves by what the word says, or the word can't stand.
use mathlib.Core.Path.{◌≡◌, refl, sym, ap, ◌∙◌}
use mathlib.Core.Bool.{Bool, true, false, true≢false}
use mathlib.Core.List.{List}
use Prim.Native.Nat.{ℕ}
use lib.ListN.{length}
use Rattle.listing.specs.declared.kind.Kind.{Kind}
use Rattle.words.specs.Inner.Looking.{token_of, is_end, ahead}
use Rattle.words.specs.declared.Found.{Found}
use Rattle.words.specs.declared.Word.{Word as Said}
use Rattle.words.specs.declared.Word.TheVariants as said
use Rattle.grammar.specs.Tree.{Text}
use Rattle.grammar.specs.Inner.Reader.{SoFar, Outside, State, between, opening, inside, located, stuck, move, bad, stop, onward, from}
use Rattle.grammar.specs.Inner.Reader.{from_word, IsNumber}

module _ (s : List ℕ) (w : Found) where
  -- the word k was found
  pub led : (st : State) (k : Said) → w.word ≡ k → is_end k ≡ false
      → from_word s st w ≡ onward (move st (token_of k)) w.start (λ t. from s t w.end)
  unfolding ahead
  led st k e z = rw (e, z)

  -- no word is left
  pub left : (st : State) → w.word ≡ said.End → from_word s st w ≡ stop (length s) st
  unfolding ahead
  left st e = rw e

-- ── Words for which a state has no move ─────────────────────────────────────
abbrev pub Stuck : State → Said → Type 0
Stuck st k = move st (token_of k) ≡ stuck

pub no_routine : (t : Text) (k : Said) → (k ≡ said.Routine → ⊥) → Stuck (between t) k
no_routine t k = elim k as (λ j. (j ≡ said.Routine → ⊥) → Stuck (between t) j) [
  | said.Routine ↦ λ h. absurd (h refl)
  | _ ↦ λ h. refl
]

pub no_open : (a : Outside) (k : Said) → (k ≡ said.Open → ⊥) → Stuck (opening a) k
no_open a k = elim k as (λ j. (j ≡ said.Open → ⊥) → Stuck (opening a) j) [
  | said.Open ↦ λ h. absurd (h refl)
  | _ ↦ λ h. refl
]

pub no_number : (j : ℕ) (x : SoFar) (a : Outside) (k : Said) → (IsNumber k → ⊥) → Stuck (located j x a) k
no_number j x a k = elim k as (λ i. (IsNumber i → ⊥) → Stuck (located j x a) i) [
  | said.Number n ↦ λ h. absurd (h (n, refl))
  | _ ↦ λ h. refl
]

-- the word k begins no item
pub record NoItem (k : Said) : Type 0 where
  pub access : (j : Kind) → k ≡ said.Access j → ⊥
  pub fence : k ≡ said.Fence → ⊥
  pub loop : k ≡ said.Loop → ⊥
  pub either : k ≡ said.Either → ⊥
  pub close : k ≡ said.Close → ⊥

pub no_item : (x : SoFar) (a : Outside) (k : Said) → NoItem k → Stuck (inside x a) k
no_item x a k = elim k as (λ j. NoItem j → Stuck (inside x a) j) [
  | said.Access j ↦ λ h. absurd (h.access j refl)
  | said.Fence ↦ λ h. absurd (h.fence refl)
  | said.Loop ↦ λ h. absurd (h.loop refl)
  | said.Either ↦ λ h. absurd (h.either refl)
  | said.Close ↦ λ h. absurd (h.close refl)
  | _ ↦ λ h. refl
]

-- the text's end is the only word that is no word
pub at_end : (k : Said) → is_end k ≡ true → k ≡ said.End
at_end k = elim k as (λ j. is_end j ≡ true → j ≡ said.End) [
  | said.End ↦ λ h. refl
  | _ ↦ λ h. absurd (true≢false (sym h))
]

-- A WORD THAT CAN'T STAND, OR THE END OF A TEXT THAT BREAKS OFF, IS BAD AT ITS PLACE
pub stands_not : (s : List ℕ) (w : Found) → (w.word ≡ said.End → w.start ≡ length s) → (st : State)
    → stop (length s) st ≡ bad (length s) → Stuck st w.word → from_word s st w ≡ bad w.start
unfolding ahead
stands_not s w gone st ends e = go (is_end w.word) refl
  where
    go : (b : Bool) → is_end w.word ≡ b → from_word s st w ≡ bad w.start
    go true z = let e = at_end w.word z in left s w st e ∙ ends ∙ ap bad (sym (gone e))
    go false z = rw (z, e)
