-- Which rows of words can stand, and where a bad text is refused: over all continuations.
use Rattle.std.specs.Prelude.{◌≡◌, List, [], ◌∷◌, ◌++◌, ℕ, length}
use Rattle.words.specs.Words.{Token, Word, meaning, words}
use Rattle.grammar.specs.Tree.{Text, words_of, TextWithin}

-- what a row of words says
abbrev pub saying : List Word → List Token
saying [] = []
saying (w ∷ ws) = meaning w.bytes ∷ saying ws

-- these are the words of the tree t
pub record Reads (ws : List Word) (t : Text) : Type 0 where
  pub words : words_of t ≡ saying ws
  pub within : TextWithin t

-- "A row of words can stand if some words after it make it the words of a text"
pub record Stands (ws : List Word) : Type 0 where
  pub more : List Word
  pub text : Text
  pub reads : Reads (ws ++ more) text

-- 17: "bad text, its place the first byte of the first word that can't stand there, or the text's length if it breaks off", of a text
-- of so many bytes
pub data BadAt (ws : List Word) (bytes : ℕ) : ℕ → Type 0 where
  word : (before after : List Word) (w : Word) → ws ≡ before ++ (w ∷ after) → Stands before → (Stands (before ++ (w ∷ [])) → ⊥)
      → BadAt ws bytes w.place
  breaks : Stands ws → ((t : Text) → Reads ws t → ⊥) → BadAt ws bytes bytes

abbrev pub BadText : List ℕ → ℕ → Type 0
BadText s p = BadAt (words s) (length s) p

-- the text s has the tree t
abbrev pub TreeOf : List ℕ → Text → Type 0
TreeOf s t = Reads (words s) t
