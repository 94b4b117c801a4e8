-- The words of a text with their places, and what each of them says.
use Rattle.std.specs.Prelude.{Bool, true, false, cond, not, ◌&&◌, ◌||◌, List, [], ◌∷◌, ℕ, ◌+◌, ◌*◌, ◌-◌, length, eqb, leb}
use Rattle.listing.specs.Kinds.{READ, WRITE, RMW}
use Rattle.listing.specs.Ascii.{bytes}

-- ── Words ───────────────────────────────────────────────────────────────────
-- a word's bytes, and the place of the first of them
pub record Word : Type 0 where
  pub place : ℕ
  pub bytes : List ℕ

abbrev pub word_at : ℕ → List ℕ → Word
word_at p w = record { place = p; bytes = w }

-- "space, CR or LF"
unfoldable pub is_blank : ℕ → Bool
is_blank b = eqb b 0x20 || (eqb b 0x0D || eqb b 0x0A)

-- a word stands right at the start
abbrev pub begins : List ℕ → Bool
begins [] = false
begins (b ∷ s) = not (is_blank b)

-- the first word is longer by the byte b, which stands at p
abbrev pub longer : ℕ → ℕ → List Word → List Word
longer p b [] = []
longer p b (w ∷ ws) = word_at p (b ∷ w.bytes) ∷ ws

-- "A word (braces and numbers too) is a longest run without space, CR or LF": a byte that is no blank makes the word right after it
-- longer, or is one by itself. These are the words of s, whose first byte is byte p of the text
abbrev pub words_from : ℕ → List ℕ → List Word
words_from p [] = []
words_from p (b ∷ s) =
    let ws = words_from (p + 1) s in
    cond (is_blank b) ws (cond (begins s) (longer p b ws) (word_at p (b ∷ []) ∷ ws))

unfoldable pub words : List ℕ → List Word
words s = words_from 0 s

-- ── Numbers ─────────────────────────────────────────────────────────────────
abbrev pub is_digit : ℕ → Bool
is_digit b = leb 0x30 b && leb b 0x39

abbrev pub all_digits : List ℕ → Bool
all_digits [] = true
all_digits (b ∷ w) = is_digit b && all_digits w

-- the number that digits say, after those that say n; "Leading zeros are allowed, and 0 is the unknown location"
abbrev pub value_from : ℕ → List ℕ → ℕ
value_from n [] = n
value_from n (b ∷ w) = value_from (10 * n + (b - 0x30)) w

-- "1 to 5 digits"
abbrev pub DIGITS : ℕ
DIGITS = 5

-- "at most 65535"
abbrev pub FARTHEST : ℕ
FARTHEST = 65535

-- "a location number (1 to 5 digits, at most 65535)"
unfoldable pub number : List ℕ → Bool
number w = (leb 1 (length w) && leb (length w) DIGITS) && (all_digits w && leb (value_from 0 w) FARTHEST)

-- ── What words say ──────────────────────────────────────────────────────────
pub data Token : Type 0 where
  Routine : Token
  Loop : Token
  Either : Token
  Open : Token
  Close : Token
  Fence : Token
  -- "`r`, `w` or `u` (RMW)", by its kind
  Access : ℕ → Token
  Number : ℕ → Token
  -- nothing that a text has
  Other : Token

-- the two rows of bytes are the same
abbrev pub same : List ℕ → List ℕ → Bool
same [] [] = true
same [] (b ∷ t) = false
same (a ∷ s) [] = false
same (a ∷ s) (b ∷ t) = eqb a b && same s t

-- what a word says, of those in "`routine { block }`" and "`r`, `w` or `u` (RMW) then a location number [..], `f`, `loop { block }`, or
-- `either { block } { block }`"; any other says nothing
unfoldable pub meaning : List ℕ → Token
meaning w =
    cond (same w (bytes "routine")) Routine
    (cond (same w (bytes "loop")) Loop
    (cond (same w (bytes "either")) Either
    (cond (same w (bytes "{")) Open
    (cond (same w (bytes "}")) Close
    (cond (same w (bytes "f")) Fence
    (cond (same w (bytes "r")) (Access READ)
    (cond (same w (bytes "w")) (Access WRITE)
    (cond (same w (bytes "u")) (Access RMW)
    (cond (number w) (Number (value_from 0 w)) Other)))))))))
