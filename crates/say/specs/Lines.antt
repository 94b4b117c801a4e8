-- The lines that the judge program and the proposer print, of the whole of their input.
use Rattle.std.specs.Prelude.{◌≡◌, true, false, List, [], ◌∷◌, ◌++◌, ℕ, suc, ◌+◌, length}
use Rattle.listing.specs.Limits.{NODES}
use Rattle.listing.specs.Node.{Listing}
use Rattle.listing.specs.Bytes.{record_at, nodes_of}
use Rattle.listing.specs.Rules.{Refusal, passed, refused, first_of}
use Rattle.listing.specs.Answer.{filled}
use Rattle.order.specs.Chains.{Ends}
use Rattle.order.specs.Verdict.{Verdict, robust, opened, Judged}
use Rattle.order.specs.Patched.{Marks, places}
use Rattle.order.specs.Proposed.{Proposed}
use Rattle.patch.specs.Patching.{ask_rules, fit_rules}
use Rattle.listing.specs.Ascii.{bytes}
use Rattle.lines.specs.Text.{next, pair}

-- ── What a line says ────────────────────────────────────────────────────────
-- "REFUSED number place"
abbrev pub refusal_words : ℕ → ℕ → List ℕ
refusal_words k p = bytes "REFUSED" ++ (next k ++ next p)

-- with the line's end
abbrev pub refusal_line : ℕ → ℕ → List ℕ
refusal_line k p = refusal_words k p ++ bytes "\n"

-- "and the pairs"
abbrev pub pairs : List Ends → List ℕ
pairs [] = []
pairs (p ∷ ps) = pair p.0 p.1 ++ pairs ps

-- "OPEN with first node, second node, count of pairs, and the pairs"
abbrev pub open_line : ℕ → ℕ → ℕ → List ℕ → List ℕ
open_line a b n chain = bytes "OPEN" ++ (next a ++ (next b ++ (next n ++ (chain ++ bytes "\n"))))

-- "ROBUST", or that
abbrev pub verdict_line : Verdict → List ℕ
verdict_line robust = bytes "ROBUST\n"
verdict_line (opened p rest) = open_line p.0 p.1 (length (p ∷ rest)) (pairs (p ∷ rest))

-- the places of a map, counted from i
abbrev pub places_from : ℕ → Marks → List ℕ
places_from i [] = []
places_from i (true ∷ ms) = next i ++ places_from (suc i) ms
places_from i (false ∷ ms) = places_from (suc i) ms

-- "PROPOSED with the number of places and each place"
abbrev pub proposal_line : ℕ → List ℕ → List ℕ
proposal_line n each = bytes "PROPOSED" ++ (next n ++ (each ++ bytes "\n"))

-- ── The judge program ───────────────────────────────────────────────────────
-- "It writes one line", of the question q and the nodes L. The program lends 258 bytes itself, so 16 is never met
abbrev pub JudgedLine : Refusal → ℕ → Listing → List ℕ → Type 0
JudgedLine passed q L line = (v : Verdict) × Judged q L v × (line ≡ verdict_line v)
JudgedLine (refused k p) q L line = line ≡ refusal_line k p

-- "one byte for the question, then the listing; empty input is refusal 1"; else refused by 1, then 2 to 12 and 18 (ask_rules)
abbrev pub JudgeLine : List ℕ → List ℕ → Type 0
JudgeLine [] line = line ≡ refusal_line 1 0
JudgeLine (q ∷ s) line = JudgedLine (first_of (ask_rules q s)) q (nodes_of s) line

-- ── The proposer ────────────────────────────────────────────────────────────
-- the map ms, or 15 where it does not fit
abbrev pub OfferedLine : Refusal → Marks → List ℕ → Type 0
OfferedLine passed ms line = line ≡ proposal_line (places ms) (places_from 0 ms)
OfferedLine (refused k p) ms line = line ≡ refusal_line k p

abbrev pub ProposedLine : Refusal → ℕ → List ℕ → List ℕ → Type 0
ProposedLine passed q s line = (ms : Marks) × Proposed q (nodes_of s) ms × OfferedLine (first_of (fit_rules s ms)) ms line
ProposedLine (refused k p) q s line = line ≡ refusal_line k p

-- its input is the judge program's
abbrev pub ProposeLine : List ℕ → List ℕ → Type 0
ProposeLine [] line = line ≡ refusal_line 1 0
ProposeLine (q ∷ s) line = ProposedLine (first_of (ask_rules q s)) q s line

-- ── A line in a lent buffer ─────────────────────────────────────────────────
-- the line stands at the buffer's start, bytes beyond are as they were, and the answer is its length
pub record Lined (line old new : List ℕ) (r : ℕ) : Type 0 where
  pub holds : new ≡ filled line old
  pub counts : r ≡ length line

-- THE PROMISES, of the whole input, the buffer before and after, and the answer
abbrev pub JudgeLinePromise : List ℕ → List ℕ → List ℕ → ℕ → Type 0
JudgeLinePromise input old new r = (line : List ℕ) × JudgeLine input line × Lined line old new r

abbrev pub ProposeLinePromise : List ℕ → List ℕ → List ℕ → ℕ → Type 0
ProposeLinePromise input old new r = (line : List ℕ) × ProposeLine input line × Lined line old new r

-- as much of an input as decides its line: the question, the longest listing, and one byte more
abbrev pub INPUT : ℕ
INPUT = 1 + record_at NODES + 1
