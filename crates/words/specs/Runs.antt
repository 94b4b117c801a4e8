-- Serves only a theorem (words_parted): a text parted into its words, said without a computation.
use Rattle.std.specs.Prelude.{◌≡◌, Bool, true, false, List, [], ◌∷◌, ℕ, ◌-◌, ◌<◌, ◌≤◌, length, take, drop, get_or}
use Rattle.words.specs.Words.{Word, word_at, is_blank}

-- each byte from a up to e is a blank, or each is none
abbrev pub Each : List ℕ → ℕ → ℕ → Bool → Type 0
Each s a e v = (k : ℕ) → a ≤ k → k < e → is_blank (get_or s k 0) ≡ v

-- a run from a up to e: bytes that are no blanks, at least one, and then a blank or the text's end
pub record Run (s : List ℕ) (a e : ℕ) : Type 0 where
  pub some : a < e
  pub within : e ≤ length s
  pub solid : Each s a e false
  pub longest : e < length s → is_blank (get_or s e 0) ≡ true

-- "A word (braces and numbers too) is a longest run without space, CR or LF": from p on there are blanks only, or blanks, a run, and the rest
pub data Parted (s : List ℕ) : ℕ → List Word → Type 0 where
  blanks : {p : ℕ} → Each s p (length s) true → Parted s p []
  run : {p : ℕ} {ws : List Word} (a e : ℕ) → p ≤ a → Each s p a true → Run s a e → Parted s e ws
      → Parted s p (word_at a (take (e - a) (drop a s)) ∷ ws)
