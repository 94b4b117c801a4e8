-- The rehearsed texts as one table. It serves computed tests alone: `texts_right` in proofs/Cases.antt says that every row is right.
use Rattle.std.specs.Prelude.{◌≡◌, List, [], ◌∷◌, ◌++◌, ℕ, zero, suc, ◌+◌, length}
use Rattle.listing.specs.Kinds.{PLAIN, READ, WRITE, RMW, FENCE}
use Rattle.listing.specs.Node.{none, Listing}
use Rattle.listing.specs.Bytes.{bytes_of}
use Rattle.listing.specs.Answer.{Answer, done, refusal, filled}
use Rattle.listing.specs.Ascii.{bytes}
use Rattle.grammar.specs.Tree.{made}
use Rattle.text.specs.Typing.{Typed}

-- what is answered: the listing of so many parts with these nodes is written, or the number and place of a refusal
pub data Reply : Type 0 where
  listed : ℕ → Listing → Reply
  refused : ℕ → ℕ → Reply

-- a row: a text, the length of the lent buffer, and what is answered
pub record Case : Type 0 where
  pub text : List ℕ
  pub room : ℕ
  pub outcome : Reply

abbrev of : List ℕ → ℕ → Reply → Case
of s room o = record { text = s; room = room; outcome = o }

-- s, n times over
abbrev times : ℕ → List ℕ → List ℕ
times zero s = []
times (suc n) s = s ++ times n s

abbrev routine : List ℕ → List ℕ
routine s = bytes "routine { " ++ (s ++ bytes "}")

-- k fences, and 8 loops one in the other
abbrev fences : ℕ → List ℕ
fences k = times k (bytes "f ")

abbrev loops : List ℕ → List ℕ
loops s = times 8 (bytes "loop { ") ++ (s ++ times 8 (bytes "} "))

abbrev parts : ℕ → List ℕ
parts k = times k (bytes "routine { f } ")

-- the nodes of k + 1 fences of one part, from node n on, and of k parts of one fence each, from routine r on
abbrev fence_nodes : ℕ → ℕ → Listing
fence_nodes n zero = made 0 FENCE 0 none none ∷ []
fence_nodes n (suc k) = made 0 FENCE 0 (n + 1) none ∷ fence_nodes (n + 1) k

abbrev part_nodes : ℕ → ℕ → Listing
part_nodes r zero = []
part_nodes r (suc k) = made r FENCE 0 none none ∷ part_nodes (r + 1) k

-- the nodes of 8 loops one in the other: each leads to its body and to the loop around it, the smaller first
abbrev loop_nodes : Listing
loop_nodes =
    made 0 PLAIN 0 1 none
    ∷ made 0 PLAIN 0 0 2
    ∷ made 0 PLAIN 0 1 3
    ∷ made 0 PLAIN 0 2 4
    ∷ made 0 PLAIN 0 3 5
    ∷ made 0 PLAIN 0 4 6
    ∷ made 0 PLAIN 0 5 7
    ∷ made 0 PLAIN 0 6 8
    ∷ made 0 FENCE 0 7 none
    ∷ []

abbrev fader_nodes : Listing
fader_nodes = made 0 WRITE 1 1 none ∷ made 0 WRITE 2 none none ∷ made 1 READ 2 3 none ∷ made 1 READ 1 none none ∷ []

abbrev either_nodes : Listing
either_nodes =
    made 0 PLAIN 0 1 2
    ∷ made 0 WRITE 1 4 none
    ∷ made 0 READ 2 3 none
    ∷ made 0 FENCE 0 4 none
    ∷ made 0 PLAIN 0 5 none
    ∷ made 0 RMW 3 none none
    ∷ []

-- a buffer of 775 bytes holds any listing
abbrev pub cases : List Case
cases =
    -- the fader, in a buffer of its length, one byte short, and typed over several lines
    of (bytes "routine { w 1 w 2 } routine { r 2 r 1 }") 31 (listed 2 fader_nodes)
    ∷ of (bytes "routine { w 1 w 2 } routine { r 2 r 1 }") 30 (refused 16 0)
    ∷ of (bytes "\r\nroutine {\n w 1\n w 2\n}\n\nroutine { r 2\rr 1 }  ") 775 (listed 2 fader_nodes)
    -- an either's second block is numbered after its first, and the node where their ends meet after both
    ∷ of (bytes "routine { either { w 1 } { r 2 f } u 3 }") 775 (listed 1 either_nodes)
    -- a loop before an item, and as the last item of a routine
    ∷ of (bytes "routine { loop { u 1 } f }") 775 (listed 1 (made 0 PLAIN 0 1 2 ∷ made 0 RMW 1 0 none ∷ made 0 FENCE 0 none none ∷ []))
    ∷ of (bytes "routine { f loop { u 1 } }") 775 (listed 1 (made 0 FENCE 0 1 none ∷ made 0 PLAIN 0 2 none ∷ made 0 RMW 1 1 none ∷ []))
    -- a loop as the last item of a loop's body leads back, to a smaller number than its own body's
    ∷ of (bytes "routine { loop { f loop { r 1 } } }") 775
    (listed 1 (made 0 PLAIN 0 1 none ∷ made 0 FENCE 0 2 none ∷ made 0 PLAIN 0 0 3 ∷ made 0 READ 1 2 none ∷ []))
    -- location 0, leading zeros, the farthest location and one more, six digits
    ∷ of (bytes "routine { w 0 r 00007 u 65535 }") 775 (listed 1 (made 0 WRITE 0 1 none ∷ made 0 READ 7 2 none ∷ made 0 RMW 65535 none none ∷ []))
    ∷ of (bytes "routine { r 65536 }") 775 (refused 17 12)
    ∷ of (bytes "routine { r 000007 }") 775 (refused 17 12)
    -- an eighth level passes, a ninth can't stand
    ∷ of (routine (loops (bytes "f "))) 775 (listed 1 loop_nodes)
    ∷ of (routine (loops (bytes "loop { f } "))) 775 (refused 17 66)
    ∷ of (routine (loops (bytes "either { f } { f } "))) 775 (refused 17 66)
    -- a TAB is no blank; no block is empty; a part begins with `routine`
    ∷ of (bytes "routine { f\t}") 775 (refused 17 10)
    ∷ of (bytes "routine { }") 775 (refused 17 10)
    ∷ of (bytes "routine { f } f") 775 (refused 17 14)
    -- a text that breaks off
    ∷ of (bytes "routine { r") 775 (refused 17 11)
    ∷ of (bytes "routine { f ") 775 (refused 17 12)
    -- no words
    ∷ of [] 775 (refused 5 0)
    ∷ of (bytes " \r\n ") 775 (refused 5 0)
    -- 16 parts pass, 17 don't, and 17 comes before 5
    ∷ of (parts 16) 775 (listed 16 (part_nodes 0 16))
    ∷ of (parts 17) 0 (refused 5 0)
    ∷ of (parts 17 ++ bytes "x") 775 (refused 17 238)
    ∷ of (parts 16 ++ bytes "routine { f x") 775 (refused 17 236)
    -- 128 nodes pass, 129 don't; 5 comes before 6, 6 before 16, and 17 before all
    ∷ of (routine (fences 128)) 775 (listed 1 (fence_nodes 0 127))
    ∷ of (routine (fences 129)) 0 (refused 6 0)
    ∷ of (parts 16 ++ routine (fences 129)) 0 (refused 5 0)
    ∷ of (routine (fences 129 ++ bytes "{ ")) 0 (refused 17 268)
    ∷ []

-- what a row's answer is in numbers, and what the buffer holds then
abbrev pub answered : Reply → Answer
answered (listed f L) = done 0 0 (length (bytes_of 1 f L))
answered (refused k p) = refusal k p

abbrev pub holds : Reply → List ℕ → List ℕ
holds (listed f L) old = filled (bytes_of 1 f L) old
holds (refused k p) old = old

-- the row is right, whatever the buffer held
abbrev pub Right : Case → Type 0
Right c = (old : List ℕ) → length old ≡ c.room → Typed c.text old (answered c.outcome) (holds c.outcome old)
