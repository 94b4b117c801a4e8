-- Rehearsed: what the program writes of the fader's text, and of one that lacks a location, computed.
use mathlib.Core.Path.{◌≡◌, refl}
use mathlib.Core.List.{List, [], ◌∷◌}
use Prim.Native.Nat.{ℕ}
use Rattle.listing.specs.Ascii.{bytes}
use Rattle.listing.specs.Kinds.{READ, WRITE}
use Rattle.words.specs.Words.{is_blank, meaning, number}
use Rattle.words.specs.Inner.Looking.{unread}
use Rattle.listing.specs.Bytes.{bytes_of}
use Rattle.lines.specs.Text.{decimal}
use Rattle.grammar.specs.Tree.{Text, nothing, part, Block, one, also, access, block_size, block_nodes}
use Rattle.grammar.specs.Inner.Reader.{parse, tree}
use Rattle.grammar.proofs.Places.{found_tree, found_bad}
use Rattle.text.specs.Typing.{typed_rules, listing_of}
use Rattle.typing.specs.Output.{TypedOutput, bad as bad-text, writes}

-- two accesses
two : ℕ → ℕ → ℕ → Block
two k a b = also (one (access k a)) (access k b)

fader : List ℕ
fader = bytes "routine { w 1 w 2 }\nroutine { r 2 r 1 }\n"

tree_of : Text
tree_of = part (part nothing (two WRITE 1 2)) (two READ 2 1)

read_so : parse fader ≡ tree tree_of
unfolding fader tree_of two parse unread is_blank meaning number
read_so = refl

-- THE FADER AS IT IS TYPED
pub fader_typed : TypedOutput (bytes "routine { w 1 w 2 }\nroutine { r 2 r 1 }\n") (
    0x4F ∷ 0x52 ∷ 0x44 ∷ 0x01 ∷ 0x00 ∷ 0x02 ∷ 0x04
    ∷ 0x00 ∷ 0x02 ∷ 0x01 ∷ 0x00 ∷ 0x01 ∷ 0xFF ∷ 0x00 ∷ 0x02 ∷ 0x02 ∷ 0x00 ∷ 0xFF ∷ 0xFF
    ∷ 0x01 ∷ 0x01 ∷ 0x02 ∷ 0x00 ∷ 0x03 ∷ 0xFF ∷ 0x01 ∷ 0x01 ∷ 0x01 ∷ 0x00 ∷ 0xFF ∷ 0xFF ∷ [])
unfolding fader tree_of two typed_rules listing_of bytes_of block_size block_nodes
fader_typed = writes tree_of (found_tree fader tree_of read_so) refl

-- AND WITHOUT ITS LAST LOCATION: byte 36 is the brace that can't stand there
pub fader_refused : TypedOutput (bytes "routine { w 1 w 2 }\nroutine { r 2 r }\n") (bytes "REFUSED 17 36\n")
unfolding parse unread is_blank meaning number decimal
fader_refused = bad-text 36 (found_bad (bytes "routine { w 1 w 2 }\nroutine { r 2 r }\n") 36 refl)
