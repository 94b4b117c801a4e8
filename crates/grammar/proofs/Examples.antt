-- Rehearsed texts, computed by the executable grammar: what is found holds over all trees and all continuations.
use mathlib.Core.Path.{◌≡◌, refl}
use mathlib.Core.List.{List, [], ◌∷◌, map}
use Prim.Native.Nat.{ℕ, zero, suc}
use Prim.Native.String.{String}
use Rattle.listing.specs.Ascii.{bytes}
use Rattle.listing.specs.Kinds.{READ, WRITE, RMW}
use Rattle.words.specs.Words.{is_blank, number, meaning}
use Rattle.words.specs.Inner.Looking.{unread}
use Rattle.grammar.specs.Tree.{access, fence, loop, either, Block, one, also, nothing, part}
use Rattle.grammar.specs.Inner.Reader.{Outcome, tree, bad, parse}
use Rattle.grammar.proofs.OneReading.{Reading, found}

-- r 1 w 2 u 0 f
abbrev plainly : Block
plainly = also (also (also (one (access READ 1)) (access WRITE 2)) (access RMW 0)) fence

-- and loop { f } either { r 3 } { w 65535 f }
abbrev every : Block
every =
    also (also plainly (loop (one fence))) (either (one (access READ 3)) (also (one (access WRITE 65535)) fence))

abbrev loops : ℕ → Block
loops zero = one fence
loops (suc n) = one (loop (loops n))

-- a text, and what it is: a tree, or bad at a place
abbrev texts : List (String × Outcome)
texts =
    ("", tree nothing)
    ∷ (" \r\n ", tree nothing)
    ∷ ("routine { r 1 w 2 u 0 f loop { f } either { r 3 } { w 65535 f } }", tree (part nothing every))
    ∷ ("routine { f } routine { r 00007 }", tree (part (part nothing (one fence)) (one (access READ 7))))
    -- no block is empty: the `}` can't stand
    ∷ ("routine { }", bad 10)
    ∷ ("routine { loop { } }", bad 17)
    -- a location, a `{` must stand there
    ∷ ("routine { r }", bad 12)
    ∷ ("routine { r 65536 }", bad 12)
    ∷ ("routine { either { f } }", bad 23)
    -- a TAB belongs to its word, and so does a brace with no blank beside it
    ∷ ("routine\t{ f }", bad 0)
    ∷ ("routine {f }", bad 8)
    -- nothing but a part stands between parts
    ∷ ("loop { f }", bad 0)
    ∷ ("routine { f } x", bad 14)
    ∷ ("routine { f } }", bad 14)
    -- a text that breaks off is bad at its length
    ∷ ("routine", bad 7)
    ∷ ("routine { f ", bad 12)
    ∷ ("routine { r", bad 11)
    ∷ ("routine { either { f }", bad 22)
    -- eight deep, and the ninth `loop` is itself the word that can't stand: not the `{` after it, at 71
    ∷ ("routine { loop { loop { loop { loop { loop { loop { loop { loop { f } } } } } } } } }", tree (part nothing (loops 8)))
    ∷ ("routine { loop { loop { loop { loop { loop { loop { loop { loop { loop { f } } } } } } } } } }", bad 66)
    -- an either is one level for both of its blocks
    ∷ ("routine { loop { loop { loop { loop { loop { loop { loop { either { f } { loop { f } } } } } } } } } }", bad 74)
    ∷ []

abbrev pub Right : List (String × Outcome) → Type 0
Right [] = Unit
Right (r ∷ rs) = Reading (bytes r.0) r.1 × Right rs

computed : (rs : List (String × Outcome)) → map (λ r. parse (bytes r.0)) rs ≡ map (λ r. r.1) rs → Right rs
computed [] e = tt
computed (r ∷ rs) e = (found (bytes r.0) r.1 cc, computed rs cc)

-- EACH TEXT IS WHAT ITS ROW SAYS
pub readings_right : Right texts
unfolding parse unread is_blank number meaning
readings_right = computed texts refl
