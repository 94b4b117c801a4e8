-- What the word finder says, in the code's words.
use Rattle.std.specs.Prelude.{◌≡◌, Bool, true, false, cond, not, List, [], ◌∷◌, ℕ, ◌<◌, ◌≤◌, length, drop, get_or}
use Rattle.listing.specs.Inner.Coded.{number_of}
use Rattle.words.specs.declared.Found.{Found}
use Rattle.words.specs.declared.Word.{Word as Said}
use Rattle.words.specs.declared.Word.TheVariants as said
use Rattle.words.specs.Words.{Token, Routine, Loop, Either, Open, Close, Fence, Access, Number, Other, Word, FARTHEST, is_blank}
use Rattle.words.specs.Words.{words_from, meaning}

-- a word's place and what it says: all that the grammar asks of it
pub record Mark : Type 0 where
  pub place : ℕ
  pub token : Token

abbrev pub mark : ℕ → Token → Mark
mark p k = record { place = p; token = k }

abbrev pub marks : List Word → List Mark
marks [] = []
marks (w ∷ ws) = mark w.place (meaning w.bytes) ∷ marks ws

-- what is still unread at place p
unfoldable pub unread : List ℕ → ℕ → List Mark
unread s p = marks (words_from p (drop p s))

-- what the code's words say; the text's end is no word
abbrev pub token_of : Said → Token
token_of said.End = Other
token_of said.Routine = Routine
token_of said.Loop = Loop
token_of said.Either = Either
token_of said.Open = Open
token_of said.Close = Close
token_of said.Fence = Fence
token_of (said.Access k) = Access (number_of k)
token_of (said.Number n) = Number n
token_of said.Other = Other

abbrev pub is_end : Said → Bool
is_end said.End = true
is_end said.Routine = false
is_end said.Loop = false
is_end said.Either = false
is_end said.Open = false
is_end said.Close = false
is_end said.Fence = false
is_end (said.Access k) = false
is_end (said.Number n) = false
is_end said.Other = false

-- the word found, and what is unread after it
unfoldable pub ahead : List ℕ → Found → List Mark
ahead s w = cond (is_end w.word) [] (mark w.start (token_of w.word) ∷ unread s w.end)

-- what is known of a word that was found, or of the text's end
pub record Place (s : List ℕ) (w : Found) : Type 0 where
  pub ordered : w.start ≤ w.end
  pub within : w.end ≤ length s
  pub some : (w.word ≡ said.End → ⊥) → w.start < w.end
  pub none : w.word ≡ said.End → w.start ≡ length s
  pub small : (n : ℕ) → w.word ≡ said.Number n → n ≤ FARTHEST

-- what looking for the next word at a place finds
pub record Ahead (s : List ℕ) (at : ℕ) (w : Found) : Type 0 where
  pub same : unread s at ≡ ahead s w
  pub later : at ≤ w.start
  pub found : Place s w

-- r is where the first byte from `at` on stands that is a blank, or that is none, as v says; or the text's end
pub record Until (s : List ℕ) (at : ℕ) (v : Bool) (r : ℕ) : Type 0 where
  pub later : at ≤ r
  pub within : r ≤ length s
  pub passed : (k : ℕ) → at ≤ k → k < r → is_blank (get_or s k 0) ≡ not v
  pub stops : r < length s → is_blank (get_or s r 0) ≡ v
