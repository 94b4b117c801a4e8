-- What a line of text is made of: words, and numbers in decimal.
use Rattle.std.specs.Prelude.{cond, List, [], ◌∷◌, ◌++◌, ℕ, zero, suc, ◌+◌, ◌/◌, ◌%◌, ltb}
use Prim.Native.Char.{code}
use Rattle.listing.specs.Ascii.{bytes}

-- a number below 10
abbrev pub digit : ℕ → List ℕ
digit d = (code "0" + d) ∷ []

-- n in at most k digits: those of n / 10, then its last one; below 10 that one alone, so no zero leads
abbrev pub digits : ℕ → ℕ → List ℕ
digits zero n = []
digits (suc k) n = cond (ltb n 10) (digit n) (digits k (n / 10) ++ digit (n % 10))

-- n in decimal; twenty digits hold every number of 64 bits
unfoldable pub decimal : ℕ → List ℕ
decimal n = digits 20 n

-- a number after a space
abbrev pub next : ℕ → List ℕ
next n = bytes " " ++ decimal n

-- a pair after a space, "0-1"
abbrev pub pair : ℕ → ℕ → List ℕ
pair a b = next a ++ (bytes "-" ++ decimal b)
