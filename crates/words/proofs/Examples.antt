-- Words of texts, computed: what parts them, what does not, and which digits are a location.
use mathlib.Core.Path.{◌≡◌, refl}
use mathlib.Core.List.{List, [], ◌∷◌, ◌++◌, map}
use Prim.Native.Nat.{ℕ}
use Rattle.listing.specs.Ascii.{bytes}
use Rattle.listing.specs.Kinds.{READ, WRITE, RMW}
use Rattle.words.specs.Words.{Routine, Loop, Either, Open, Close, Fence, Access, Number, Other, is_blank, words, number, meaning}
use Rattle.words.specs.Inner.Looking.{Mark, mark, marks}

abbrev Row : Type 0
Row = List ℕ × List Mark

abbrev rows : List Row
rows =
    -- space, CR and LF part words, one or many; a text may begin and end with them
    (bytes "", [])
    ∷ (0x20 ∷ 0x0D ∷ 0x0A ∷ [], [])
    ∷ (bytes "routine { f }", mark 0 Routine ∷ mark 8 Open ∷ mark 10 Fence ∷ mark 12 Close ∷ [])
    ∷ (bytes " loop" ++ 0x0D ∷ 0x0A ∷ 0x0A ∷ bytes "either", mark 1 Loop ∷ mark 8 Either ∷ [])
    ∷ (bytes "r 1  w 2 u", mark 0 (Access READ) ∷ mark 2 (Number 1) ∷ mark 5 (Access WRITE) ∷ mark 7 (Number 2) ∷ mark 9 (Access RMW) ∷ [])
    -- TAB, NUL and bytes over 127 do not
    ∷ (bytes "r" ++ 0x09 ∷ bytes "1 f", mark 0 Other ∷ mark 4 Fence ∷ [])
    ∷ (0x00 ∷ bytes " f" ++ 0x00 ∷ [], mark 0 Other ∷ mark 2 Other ∷ [])
    ∷ (bytes "f" ++ 0xC2 ∷ 0xA0 ∷ bytes "f f", mark 0 Other ∷ mark 5 Fence ∷ [])
    ∷ (0x80 ∷ 0x20 ∷ 0xFF ∷ [], mark 0 Other ∷ mark 2 Other ∷ [])
    -- braces and numbers are words too, so they stand apart
    ∷ (bytes "loop{ {} r1 f}", mark 0 Other ∷ mark 6 Other ∷ mark 9 Other ∷ mark 12 Other ∷ [])
    ∷ (bytes "Loop F routines rw", mark 0 Other ∷ mark 5 Other ∷ mark 7 Other ∷ mark 16 Other ∷ [])
    -- a location has 1 to 5 digits and is at most 65535
    ∷ (bytes "0 00000 00007", mark 0 (Number 0) ∷ mark 2 (Number 0) ∷ mark 8 (Number 7) ∷ [])
    ∷ (bytes "65535 65536 99999", mark 0 (Number 65535) ∷ mark 6 Other ∷ mark 12 Other ∷ [])
    ∷ (bytes "000000 000001 100000", mark 0 Other ∷ mark 7 Other ∷ mark 14 Other ∷ [])
    ∷ (bytes "-1 +1 0x1 1a /1 1:", mark 0 Other ∷ mark 3 Other ∷ mark 6 Other ∷ mark 10 Other ∷ mark 13 Other ∷ mark 16 Other ∷ [])
    ∷ []

-- EACH TEXT HAS ITS WORDS, AND EACH WORD SAYS WHAT IT SHOULD
pub words_said : map (λ (r : Row). marks (words r.0)) rows ≡ map (λ (r : Row). r.1) rows
unfolding words is_blank meaning number
words_said = refl
