-- A line that was written of an input that was read.
use Rattle.std.specs.Prelude.{◌≡◌, ℕ, List, Option, ◌<◌, length, take}
use Rattle.std.specs.Borrow.{Bor, MutBor}
use Rattle.std.specs.Io.KnownBytes.{Consumes, IsAtEnd, Appends}

-- a call of `line_of` at the start of the input, as far as the buffer goes, made the line that the output grew by
pub record Answered (line_of : Bor (List ℕ) → MutBor (List ℕ) → ℕ → MutBor (List ℕ) → Type 0) (left left' : Option (List ℕ)) (input : List ℕ)
    (out out' : Option (List ℕ)) : Type 0 where
  pub size : ℕ
  pub read : Consumes left left' (take size input)
  pub whole : size < length input → IsAtEnd left'
  pub text : Bor (List ℕ)
  pub is_read : text.now ≡ take size input
  pub lent : MutBor (List ℕ)
  pub count : ℕ
  pub line : MutBor (List ℕ)
  pub made : line_of text lent count line
  pub written : Appends out out' (take count line.now)
