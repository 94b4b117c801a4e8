-- How a word is told: by what it says, in the code's words.
use Rattle.std.specs.Prelude.{◌≡◌, cond, ◌&&◌, List, ℕ, ◌≤◌, leb, Option, None, Some}
use Rattle.words.specs.declared.Word.{Word}
use Rattle.words.specs.declared.Word.TheVariants as words
use Rattle.words.specs.Words.{FARTHEST, all_digits, value_from, number, meaning}
use Rattle.words.specs.Inner.Looking.{token_of}

-- the location that bytes say after digits that say n, if they say one
unfoldable pub location_from : ℕ → List ℕ → Option ℕ
location_from n w = cond (all_digits w && leb (value_from n w) FARTHEST) (Some (value_from n w)) None

-- the location that a word says, if it says one
unfoldable pub location_of : List ℕ → Option ℕ
location_of w = cond (number w) (Some (value_from 0 w)) None

-- the code's word says what the bytes say
pub record SaysWord (w : List ℕ) (r : Word) : Type 0 where
  pub token : token_of r ≡ meaning w
  pub some : r ≡ words.End → ⊥
  pub small : (n : ℕ) → r ≡ words.Number n → n ≤ FARTHEST
