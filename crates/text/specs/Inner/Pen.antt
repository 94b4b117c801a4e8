-- The flat writer over the words of a text: where a node leads, which nodes a word makes, and how the pen goes on.
use Rattle.std.specs.Prelude.{◌≡◌, cond, List, [], ◌∷◌, ◌++◌, ℕ, zero, suc, ◌+◌, ◌-◌, ◌*◌, ◌/◌, ◌%◌, ◌≤◌, eqb, ltb}
use Rattle.listing.specs.Kinds.{PLAIN, FENCE}
use Rattle.listing.specs.Node.{none, Listing}
use Rattle.words.specs.Words.{Token, Routine, Loop, Either, Open, Close, Fence, Access, Number, Other}
use Rattle.words.specs.Inner.Looking.{Mark, unread}
use Rattle.grammar.specs.Tree.{plain}
use Rattle.grammar.specs.Inner.Reader.{Cursor}
use Rattle.text.specs.Inner.Records.{alone}
use Rattle.text.specs.declared.pen.Pen.{Pen}

-- what the words from place p on say
abbrev pub tokens_of : List Mark → List Token
tokens_of [] = []
tokens_of (m ∷ ms) = m.token ∷ tokens_of ms

unfoldable pub tokens : List ℕ → ℕ → List Token
tokens s p = tokens_of (unread s p)

-- ── Blocks passed ───────────────────────────────────────────────────────────
-- how many nodes a word counts for: each brace that opens a block of a loop or an either counts for one of the item's own nodes
abbrev pub makes : Token → ℕ
makes Open = 1
makes Fence = 1
makes (Access k) = 1
makes Routine = 0
makes Loop = 0
makes Either = 0
makes Close = 0
makes (Number n) = 0
makes Other = 0

-- the nodes counted up to the end of a block, and the words after it
pub record Beyond : Type 0 where
  pub nodes : ℕ
  pub rest : List Token

abbrev pub beyond : ℕ → List Token → Beyond
beyond n ws = record { nodes = n; rest = ws }

-- past the `}` of the block whose `{` is next, or is the first of o open ones, after n nodes
abbrev pub past : List Token → ℕ → ℕ → Beyond
past [] o n = beyond n []
past (Open ∷ ws) o n = past ws (suc o) (n + 1)
past (Close ∷ ws) zero n = beyond n ws
past (Close ∷ ws) (suc zero) n = beyond n ws
past (Close ∷ ws) (suc (suc o)) n = past ws (suc o) n
past (Fence ∷ ws) o n = past ws o (n + 1)
past (Access k ∷ ws) o n = past ws o (n + 1)
past (Routine ∷ ws) o n = past ws o n
past (Loop ∷ ws) o n = past ws o n
past (Either ∷ ws) o n = past ws o n
past (Number l ∷ ws) o n = past ws o n
past (Other ∷ ws) o n = past ws o n

-- a reader went past a block, and counted its nodes
pub record PastBlock (s : List ℕ) (old new : Cursor) : Type 0 where
  pub text : new.text ≡ s
  pub same : past (tokens s old.end) 0 old.passed ≡ beyond new.passed (tokens s new.end)

-- a reader is on its way past a block, in which o braces are open
pub record Passing (s : List ℕ) (old at : Cursor) (o : ℕ) : Type 0 where
  pub text : at.text ≡ s
  pub same : past (tokens s old.end) 0 old.passed ≡ past (tokens s at.end) o at.passed
  pub less : o ≤ at.end

-- ── Exits ───────────────────────────────────────────────────────────────────
-- the exits of all open blocks are one number, eight bits a level: the end of the innermost one leads to the node whose number and one
-- more its last eight bits are, or nowhere
unfoldable pub exit_of : ℕ → ℕ
exit_of k = cond (eqb (k % 256) 0) none (k % 256 - 1)

-- the exits with a block more, whose end leads to node x - 1; a good text has eight levels at the most
unfoldable pub inside : ℕ → ℕ → ℕ
inside k x = cond (ltb k 72057594037927936) (256 * k + x % 256) k

-- "What follows an item is the next item of its block, and after the last one what follows the block's end"
abbrev pub follows : ℕ → ℕ → List Token → ℕ
follows k n [] = n
follows k n (Close ∷ ws) = exit_of k
follows k n (Routine ∷ ws) = n
follows k n (Loop ∷ ws) = n
follows k n (Either ∷ ws) = n
follows k n (Open ∷ ws) = n
follows k n (Fence ∷ ws) = n
follows k n (Access l ∷ ws) = n
follows k n (Number l ∷ ws) = n
follows k n (Other ∷ ws) = n

-- ── The pen ─────────────────────────────────────────────────────────────────
abbrev pub pen : ℕ → ℕ → ℕ → Pen
pen r n k = record { parts = r; number = n; exits = k }

-- the location that a word says, if it says one
abbrev pub location_of : Token → ℕ
location_of (Number l) = l
location_of Routine = 0
location_of Loop = 0
location_of Either = 0
location_of Open = 0
location_of Close = 0
location_of Fence = 0
location_of (Access k) = 0
location_of Other = 0

-- the location that the next word says, and the words after it
abbrev pub location : List Token → ℕ
location [] = 0
location (w ∷ ws) = location_of w

abbrev pub located : List Token → List Token
located [] = []
located (w ∷ ws) = ws

-- the nodes that a word makes where ws follow it
unfoldable pub nodes_at : Pen → Token → List Token → Listing
nodes_at p (Access k) ws = alone p.parts k (location ws) (follows p.exits (p.number + 1) (located ws))
nodes_at p Fence ws = alone p.parts FENCE 0 (follows p.exits (p.number + 1) ws)
nodes_at p Loop ws =
    let body = past ws 0 p.number in
    plain p.parts (p.number + 1) (follows p.exits body.nodes body.rest) ∷ []
nodes_at p Either ws = plain p.parts (p.number + 1) (past ws 0 p.number).nodes ∷ []
-- an either's second block ends: both ends meet
nodes_at p Close ws = cond (eqb (p.exits % 256) (p.number + 1)) (alone p.parts PLAIN 0 (follows (p.exits / 256) (p.number + 1) ws)) []
nodes_at p Routine ws = []
nodes_at p Open ws = []
nodes_at p (Number n) ws = []
nodes_at p Other ws = []

-- a block ends: a part's, an either's second, a loop's, or an either's first
unfoldable pub closed : Pen → Pen
closed p =
    cond (eqb p.exits 0) (pen (p.parts + 1) p.number 0)
    (cond (eqb (p.exits % 256) (p.number + 1)) (pen p.parts (p.number + 1) (p.exits / 256))
    (cond (ltb (p.exits % 256) (p.number + 1)) (pen p.parts p.number (p.exits / 256)) p))

-- the pen after a word where ws follow it
unfoldable pub after : Pen → Token → List Token → Pen
after p (Access k) ws = pen p.parts (p.number + 1) p.exits
after p Fence ws = pen p.parts (p.number + 1) p.exits
after p Loop ws = pen p.parts (p.number + 1) (inside p.exits (p.number + 1))
after p Either ws =
    let first = past ws 0 p.number in
    pen p.parts (p.number + 1) (inside p.exits (past first.rest 0 first.nodes).nodes)
after p Close ws = closed p
after p Routine ws = p
after p Open ws = p
after p (Number n) ws = p
after p Other ws = p

-- the nodes that the words make one after the other
abbrev pub run : Pen → List Token → Listing
run p [] = []
run p (w ∷ ws) = nodes_at p w ws ++ run (after p w ws) ws

-- the nodes of a text
unfoldable pub written : List ℕ → Listing
written s = run (pen 0 0 0) (tokens s 0)
