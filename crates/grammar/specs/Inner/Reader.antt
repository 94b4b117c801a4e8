-- The executable grammar, in which each word leads from a state to the next or can't stand, and what the readers say of it.
use Rattle.std.specs.Prelude.{◌≡◌, cond, List, [], ◌∷◌, ℕ, suc, ◌+◌, ◌<◌, ◌≤◌, length, ltb, Result, Ok, Err}
use Rattle.listing.specs.declared.reason.Reason.{Reason}
use Rattle.listing.specs.declared.reason.Reason.TheVariants as reasons
use Rattle.words.specs.Words.{Token, Routine, Loop, Either, Open, Close, Fence, Access, Number, Other}
use Rattle.words.specs.Inner.Looking.{Mark, unread, ahead, Place, Ahead}
use Rattle.words.specs.declared.Found.{Found}
use Rattle.words.specs.declared.Word.{Word as Said}
use Rattle.words.specs.declared.Word.TheVariants as said
use Rattle.grammar.specs.Tree.{Item, access, fence, loop, either, Block, one, also, Text, nothing, part, DEPTH, item_size, block_size}
use Rattle.grammar.specs.Tree.{ItemWithin, BlockWithin, parts_of, size_of}
use Rattle.grammar.specs.declared.Size.{Size}
use Rattle.grammar.specs.declared.reader.Misplaced.{Misplaced}

-- the items of a block read so far
pub data SoFar : Type 0 where
  none : SoFar
  some : Block → SoFar

abbrev pub and : SoFar → Item → SoFar
and none i = some (one i)
and (some b) i = some (also b i)

-- what stands around the block that is read: a part; or a loop, or an either's first or second block, after the items before it
pub data Outside : Type 0 where
  of_part : Text → Outside
  of_loop : SoFar → Outside → Outside
  of_first : SoFar → Outside → Outside
  of_second : SoFar → Block → Outside → Outside

-- how deep that is
abbrev pub deep : Outside → ℕ
deep (of_part t) = 0
deep (of_loop b a) = suc (deep a)
deep (of_first b a) = suc (deep a)
deep (of_second b c a) = suc (deep a)

pub data State : Type 0 where
  -- between parts
  between : Text → State
  -- before a block's `{`
  opening : Outside → State
  -- in a block
  inside : SoFar → Outside → State
  -- after `r`, `w` or `u`
  located : ℕ → SoFar → Outside → State

-- a block is read to its `}`
abbrev pub closed : Block → Outside → State
closed b (of_part t) = between (part t b)
closed b (of_loop x a) = inside (and x (loop b)) a
closed b (of_first x a) = opening (of_second x b a)
closed b (of_second x c a) = inside (and x (either c b)) a

pub data Move : Type 0 where
  stuck : Move
  to : State → Move

-- one level more, while there is one
abbrev pub enter : ℕ → Outside → Move
enter d a = cond (ltb d DEPTH) (to (opening a)) stuck

abbrev pub at_between : Text → Token → Move
at_between t Routine = to (opening (of_part t))
at_between t Loop = stuck
at_between t Either = stuck
at_between t Open = stuck
at_between t Close = stuck
at_between t Fence = stuck
at_between t (Access k) = stuck
at_between t (Number n) = stuck
at_between t Other = stuck

abbrev pub at_opening : Outside → Token → Move
at_opening a Open = to (inside none a)
at_opening a Routine = stuck
at_opening a Loop = stuck
at_opening a Either = stuck
at_opening a Close = stuck
at_opening a Fence = stuck
at_opening a (Access k) = stuck
at_opening a (Number n) = stuck
at_opening a Other = stuck

abbrev pub at_close : SoFar → Outside → Move
at_close none a = stuck
at_close (some b) a = to (closed b a)

abbrev pub at_inside : SoFar → Outside → Token → Move
at_inside x a (Access k) = to (located k x a)
at_inside x a Fence = to (inside (and x fence) a)
at_inside x a Loop = enter (deep a) (of_loop x a)
at_inside x a Either = enter (deep a) (of_first x a)
at_inside x a Close = at_close x a
at_inside x a Open = stuck
at_inside x a Routine = stuck
at_inside x a (Number n) = stuck
at_inside x a Other = stuck

abbrev pub at_located : ℕ → SoFar → Outside → Token → Move
at_located k x a (Number n) = to (inside (and x (access k n)) a)
at_located k x a Routine = stuck
at_located k x a Loop = stuck
at_located k x a Either = stuck
at_located k x a Open = stuck
at_located k x a Close = stuck
at_located k x a Fence = stuck
at_located k x a (Access j) = stuck
at_located k x a Other = stuck

abbrev pub move : State → Token → Move
move (between t) w = at_between t w
move (opening a) w = at_opening a w
move (inside x a) w = at_inside x a w
move (located k x a) w = at_located k x a w

-- what a text is: the tree, or bad at a place
pub data Outcome : Type 0 where
  tree : Text → Outcome
  bad : ℕ → Outcome

-- the text ends here: "or the text's length if it breaks off"
abbrev pub stop : ℕ → State → Outcome
stop len (between t) = tree t
stop len (opening a) = bad len
stop len (inside x a) = bad len
stop len (located k x a) = bad len

abbrev pub onward : Move → ℕ → (State → Outcome) → Outcome
onward stuck p more = bad p
onward (to s) p more = more s

-- a text of len bytes is read on from a state
abbrev pub read : ℕ → State → List Mark → Outcome
read len s [] = stop len s
read len s (w ∷ ws) = onward (move s w.token) w.place (λ t. read len t ws)

-- ── What the readers say ────────────────────────────────────────────────────
-- the text s is read on from a state at a place, or at the word found
abbrev pub from : List ℕ → State → ℕ → Outcome
from s st p = read (length s) st (unread s p)

abbrev pub from_word : List ℕ → State → Found → Outcome
from_word s st w = read (length s) st (ahead s w)

unfoldable pub parse : List ℕ → Outcome
parse s = from s (between nothing) 0

-- so many levels are left inside a
abbrev pub Levels : Outside → ℕ → Type 0
Levels a depth = deep a + depth ≡ DEPTH

-- one level deeper than `depth` is one fewer, if any
abbrev pub Deeper : ℕ → Result ℕ Misplaced → Type 0
Deeper depth (Ok left) = depth ≡ left + 1
Deeper depth (Err _) = depth ≡ 0

-- where a reader of a text is: where the word looked at last starts and ends, and how many nodes were passed
pub record Cursor : Type 0 where
  pub text : List ℕ
  pub start : ℕ
  pub end : ℕ
  pub passed : ℕ

abbrev pub cursor : List ℕ → ℕ → ℕ → ℕ → Cursor
cursor s b e n = record { text = s; start = b; end = e; passed = n }

-- the word looked at last
abbrev pub word_of : Said → Cursor → Found
word_of w at = record { word = w; start = at.start; end = at.end }

-- looking at the next word finds w; a reader has passed no more nodes than bytes
pub record Looked (s : List ℕ) (old new : Cursor) (w : Said) : Type 0 where
  pub text : new.text ≡ s
  pub ahead : Ahead s old.end (word_of w new)
  pub passed : new.passed ≡ old.passed
  pub few : old.passed ≤ old.end
  pub fits : new.end < 18446744073709551616

-- so many nodes more are passed, and no word is looked at
pub record Passed (old : Cursor) (n : ℕ) (new : Cursor) : Type 0 where
  pub text : new.text ≡ old.text
  pub start : new.start ≡ old.start
  pub end : new.end ≡ old.end
  pub passed : new.passed ≡ old.passed + n

-- the next word was looked at: one that must be next, or another, which can't stand there
abbrev pub Met : (Said → Type 0) → List ℕ → Cursor → Cursor → Result Unit Misplaced → Type 0
Met P s old new (Ok _) = (w : Said) × Looked s old new w × P w
Met P s old new (Err _) = (w : Said) × Looked s old new w × (P w → ⊥)

abbrev pub IsOpen : Said → Type 0
IsOpen w = w ≡ said.Open

abbrev pub IsNumber : Said → Type 0
IsNumber w = (n : ℕ) × (w ≡ said.Number n)

-- the first word of an item was looked at, or no word is left; the nodes passed so far are fewer than the bytes before it
pub record ItemAhead (s : List ℕ) (w : Said) (at : Cursor) : Type 0 where
  pub found : Place s (word_of w at)
  pub going : w ≡ said.Close → ⊥
  pub passed : at.passed < at.start

-- one item stands between the word w and place e, with `depth` levels left: it leads every block that it can stand in from the one to
-- the other
pub record ItemSpan (s : List ℕ) (w : Found) (depth : ℕ) (i : Item) (e : ℕ) : Type 0 where
  pub within : ItemWithin i depth
  pub same : (x : SoFar) (a : Outside) → Levels a depth → from_word s (inside x a) w ≡ from s (inside (and x i) a) e

-- and one block with its braces between two places
pub record BlockSpan (s : List ℕ) (at depth : ℕ) (b : Block) (e : ℕ) : Type 0 where
  pub within : BlockWithin b depth
  pub same : (a : Outside) → Levels a depth → from s (opening a) at ≡ from s (closed b a) e

-- what the item reader says of the item whose first word was looked at: it is read, or the word looked at last can't stand
abbrev pub ItemRead : List ℕ → Said → ℕ → Cursor → Cursor → Result Unit Misplaced → Type 0
ItemRead s w depth old new (Ok _) =
    (i : Item)
    × (new.text ≡ s)
    × (new.passed ≡ old.passed + item_size i)
    × (old.start + item_size i ≤ new.end)
    × (new.end ≤ length s)
    × ItemSpan s (word_of w old) depth i new.end
ItemRead s w depth old new (Err _) =
    (new.text ≡ s) × ((x : SoFar) (a : Outside) → Levels a depth → from_word s (inside x a) (word_of w old) ≡ bad new.start)

-- what the block reader says of the block whose `{` is next
abbrev pub BlockRead : List ℕ → ℕ → Cursor → Cursor → Result Unit Misplaced → Type 0
BlockRead s depth old new (Ok _) =
    (b : Block)
    × (new.text ≡ s)
    × (new.passed ≡ old.passed + block_size b)
    × (old.end + block_size b + 2 ≤ new.end)
    × (new.end ≤ length s)
    × BlockSpan s old.end depth b new.end
BlockRead s depth old new (Err _) =
    (new.text ≡ s) × ((a : Outside) → Levels a depth → from s (opening a) old.end ≡ bad new.start)

abbrev pub before_size : SoFar → ℕ
before_size none = 0
before_size (some b) = block_size b

abbrev pub BeforeWithin : SoFar → ℕ → Type 0
BeforeWithin none d = Unit
BeforeWithin (some b) d = BlockWithin b d

-- in the block whose `{` was next at `old`, some items are read, and the word w after them was looked at
pub record BlockGoes (s : List ℕ) (depth : ℕ) (old at : Cursor) (w : Said) : Type 0 where
  pub text : at.text ≡ s
  pub items : SoFar
  pub nodes : at.passed ≡ old.passed + before_size items
  pub deep_so : BeforeWithin items depth
  pub few : old.passed ≤ old.end
  pub later : old.end + 1 + before_size items ≤ at.start
  pub within : old.end < length s
  pub found : Place s (word_of w at)
  pub same : (a : Outside) → Levels a depth → from s (opening a) old.end ≡ from_word s (inside items a) (word_of w at)

-- what the reader says of a text: how many parts and nodes its tree has, or where it is bad
abbrev pub TextRead : List ℕ → Result Size Reason → Type 0
TextRead s (Ok size) = (t : Text) × (parts_of t ≡ size.parts) × (size_of t ≡ size.nodes) × (parse s ≡ tree t)
TextRead s (Err r) = (p : ℕ) × (r ≡ reasons.Text p) × (parse s ≡ bad p)

-- f parts are read, of as many nodes as were passed
pub record TextGoes (s : List ℕ) (at : Cursor) (f : ℕ) : Type 0 where
  pub of : at.text ≡ s
  pub text : Text
  pub parted : parts_of text ≡ f
  pub nodes : size_of text ≡ at.passed
  pub few : f ≤ at.end
  pub within : at.end ≤ length s
  pub same : parse s ≡ from s (between text) at.end
