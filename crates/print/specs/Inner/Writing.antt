-- What was written: a line that was put into a buffer first, and a refusal for a person.
use Rattle.std.specs.Prelude.{cond, List, [], ◌++◌, ℕ, eqb, leb, ◌&&◌, ◌||◌, Option, take}
use Rattle.std.specs.Borrow.{MutBor}
use Rattle.std.specs.Fmt.{decimal}
use Rattle.std.specs.Io.KnownBytes.{Appends}
use Rattle.listing.specs.Ascii.{bytes}
use Rattle.say.specs.Lines.{refusal_words}

-- a call of `put` made what the output grew by
pub record Written (put : MutBor (List ℕ) → ℕ → MutBor (List ℕ) → Type 0) (out out' : Option (List ℕ)) : Type 0 where
  pub lent : MutBor (List ℕ)
  pub count : ℕ
  pub line : MutBor (List ℕ)
  pub made : put lent count line
  pub written : Appends out out' (take count line.now)

-- the row that has the words for refusal k: the last one, if k has none
abbrev pub row_of : ℕ → ℕ
row_of k = cond (leb 1 k && leb k 18) k 18

-- what the place of refusal k is of, where it has one
abbrev pub place_words : ℕ → ℕ → List ℕ
place_words k p =
    cond (leb 8 k && leb k 12 || eqb k 18)
    (bytes " (node " ++ (decimal p ++ bytes ")"))
    (cond (eqb k 14) (bytes " (index " ++ (decimal p ++ bytes ")")) [])

-- a refusal, what it means, and its place; which words say what it means is left open
pub record Explained (k p : ℕ) (out out' : Option (List ℕ)) : Type 0 where
  pub meaning : List ℕ
  pub written : Appends out out' (refusal_words k p ++ (bytes ": " ++ (meaning ++ (place_words k p ++ bytes "\n"))))
