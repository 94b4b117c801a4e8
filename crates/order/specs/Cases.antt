-- The rehearsed listings, as one table. It serves computed tests alone: `cases_right` in proofs/Cases.antt says that every row is right.
use Rattle.std.specs.Prelude.{List, [], ◌∷◌, ◌++◌, true, false, ℕ}
use Rattle.listing.specs.Kinds.{PLAIN, READ, WRITE, RMW, FENCE}
use Rattle.listing.specs.Node.{Node, none, Listing}
use Rattle.order.specs.Verdict.{Verdict, robust, opened, Judged}
use Rattle.order.specs.Patched.{Marks, patched}

-- a row: under the question, the listing with the fences of the map has the verdict
pub record Case : Type 0 where
  pub question : ℕ
  pub listing : Listing
  pub map : Marks
  pub verdict : Verdict

abbrev pub of : ℕ → Listing → Marks → Verdict → Case
of q L ms v = record { question = q; listing = L; map = ms; verdict = v }

-- "routine [..], kind [..], location [..], first successor [..], second successor"
abbrev pub at : ℕ → ℕ → ℕ → ℕ → ℕ → Node
at r k l f s = record { routine = r; kind = k; location = l; first = f; second = s }

-- "Cells: x = 1, y = 2, z = 3"
abbrev pub x : ℕ
x = 1

abbrev pub y : ℕ
y = 2

abbrev pub z : ℕ
z = 3

abbrev w : ℕ
w = 4

abbrev block : ℕ
block = 32769

-- "0 write x, 1 read y; 2 write y, 3 read x"
abbrev pub case_a : Listing
case_a = at 0 WRITE x 1 none ∷ at 0 READ y none none ∷ at 1 WRITE y 3 none ∷ at 1 READ x none none ∷ []

-- "0 read x, 1 write y; 2 read y, 3 write x"
abbrev pub case_b : Listing
case_b = at 0 READ x 1 none ∷ at 0 WRITE y none none ∷ at 1 READ y 3 none ∷ at 1 WRITE x none none ∷ []

-- "0 write x, 1 write y; 2 read y, 3 read x"
abbrev pub case_c : Listing
case_c = at 0 WRITE x 1 none ∷ at 0 WRITE y none none ∷ at 1 READ y 3 none ∷ at 1 READ x none none ∷ []

-- "A with map 1 0 0 0"
abbrev map_d : Marks
map_d = true ∷ false ∷ false ∷ false ∷ []

-- "A with map 1 0 1 0"
abbrev map_e : Marks
map_e = true ∷ false ∷ true ∷ false ∷ []

-- "0 write x, 1 RMW z, 2 read y; 3 write y, 4 RMW z, 5 read x"
abbrev pub case_g : Listing
case_g = at 0 WRITE x 1 none ∷ at 0 RMW z 2 none ∷ at 0 READ y none none ∷ at 1 WRITE y 4 none ∷ at 1 RMW z 5 none ∷ at 1 READ x none none ∷ []

-- "G with 1 RMW x and 4 RMW y"
abbrev pub case_f : Listing
case_f = at 0 WRITE x 1 none ∷ at 0 RMW x 2 none ∷ at 0 READ y none none ∷ at 1 WRITE y 4 none ∷ at 1 RMW y 5 none ∷ at 1 READ x none none ∷ []

-- "0 write x to 1 and 2, 1 fence, 2 read y; 3 write y, 4 fence, 5 read x"
abbrev pub case_h : Listing
case_h = at 0 WRITE x 1 2 ∷ at 0 FENCE 0 2 none ∷ at 0 READ y none none ∷ at 1 WRITE y 4 none ∷ at 1 FENCE 0 5 none ∷ at 1 READ x none none ∷ []

-- "0 write block 32769, 1 read the same block; 2 and 3 alike", and "J with the cell x in place of the block"
abbrev pub case_j : ℕ → Listing
case_j l = at 0 WRITE l 1 none ∷ at 0 READ l none none ∷ at 1 WRITE l 3 none ∷ at 1 READ l none none ∷ []

-- "0 write x to 1, 1 read y to 0, one routine"
abbrev pub case_k : Listing
case_k = at 0 WRITE x 1 none ∷ at 0 READ y 0 none ∷ []

-- two accesses in a row, "one routine"
abbrev in_row : ℕ → ℕ → ℕ → ℕ → Listing
in_row k₁ l₁ k₂ l₂ = at 0 k₁ l₁ 1 none ∷ at 0 k₂ l₂ none none ∷ []

-- "0 write unknown, 1 write unknown, one routine"
abbrev pub case_l : Listing
case_l = in_row WRITE 0 WRITE 0

-- "L with map 1 0"
abbrev map_l : Marks
map_l = true ∷ false ∷ []

-- ── A pair joined to itself, or not ─────────────────────────────────────────
-- "0 write block 32769 to 0"
abbrev pub block_loop : Listing
block_loop = at 0 WRITE block 0 none ∷ []

-- ── Where somebody writes a cell that is read, or nobody does ───────────────
-- one node more, "a routine of [..] own": r
abbrev pub also : ℕ → ℕ → ℕ → Listing → Listing
also r k l L = L ++ (at r k l none none ∷ [])

-- "K and 2 write y"
abbrev written_k : Listing
written_k = also 1 WRITE y case_k

-- "0 read x, 1 read y; 2 read y, 3 read x"
abbrev readers : Listing
readers = at 0 READ x 1 none ∷ at 0 READ y none none ∷ at 1 READ y 3 none ∷ at 1 READ x none none ∷ []

-- "0 read unknown, 1 read x; 2 write y"
abbrev unknown_read : Listing
unknown_read = also 1 WRITE y (in_row READ 0 READ x)

-- "0 read unknown, 1 read unknown"
abbrev both_unknown : Listing
both_unknown = in_row READ 0 READ 0

-- "Using one neighbour before and one after as if that closed a chain": 2-3 follows 0-1 and 4-5
-- leads to it, but 2-3 does not lead to 4-5
abbrev pub neighbours : Listing
neighbours = at 0 WRITE x 1 none ∷ at 0 READ y none none ∷ at 1 WRITE y 3 none ∷ at 1 READ z none none ∷ at 2 READ w 5 none ∷ at 2 WRITE x none none ∷ []

-- ── The answers ─────────────────────────────────────────────────────────────
-- "OPEN 0 1, chain 0-1 2-3", and "OPEN 2 3, chain 2-3 0-1"
abbrev pub forth : Verdict
forth = opened (0, 1) ((2, 3) ∷ [])

abbrev pub back : Verdict
back = opened (2, 3) ((0, 1) ∷ [])

-- "OPEN 0 1, chain 0-1", of one pair
abbrev alone : Verdict
alone = opened (0, 1) []

-- "OPEN 0 1, chain 0-1 4-5", and "OPEN 0 2, chain 0-2 3-5"
abbrev first : Verdict
first = opened (0, 1) ((4, 5) ∷ [])

abbrev pub around : Verdict
around = opened (0, 2) ((3, 5) ∷ [])

-- "all: ROBUST"
abbrev always : Listing → Marks → List Case
always L ms = of 1 L ms robust ∷ of 2 L ms robust ∷ of 3 L ms robust ∷ of 4 L ms robust ∷ of 5 L ms robust ∷ of 6 L ms robust ∷ []

-- "1: ROBUST; 2 to 6: OPEN"
abbrev on_arm : Listing → Verdict → List Case
on_arm L v = of 1 L [] robust ∷ of 2 L [] v ∷ of 3 L [] v ∷ of 4 L [] v ∷ of 5 L [] v ∷ of 6 L [] v ∷ []

-- "1 and 4: ROBUST; 2, 3, 5 and 6: OPEN"
abbrev of_writes : Listing → Verdict → List Case
of_writes L v = of 1 L [] robust ∷ of 2 L [] v ∷ of 3 L [] v ∷ of 4 L [] robust ∷ of 5 L [] v ∷ of 6 L [] v ∷ []

-- every question that the rules answer for them, one line a listing: "A" to "L", and "neighbour before and one after"
abbrev pub lettered : List (List Case)
lettered =
    (of 1 case_a [] forth ∷ of 3 case_a [] robust ∷ of 4 case_a [] robust ∷ of 5 case_a [] forth ∷ of 6 case_a [] robust ∷ [])
    ∷ on_arm case_b forth
    ∷ (of 1 case_c [] robust ∷ of 3 case_c [] forth ∷ of 4 case_c [] back ∷ of 5 case_c [] forth ∷ of 6 case_c [] forth ∷ [])
    ∷ (of 1 case_a map_d back ∷ of 5 case_a map_d back ∷ of 6 case_a map_d robust ∷ [])
    ∷ (of 1 case_a map_e robust ∷ of 2 case_a map_e robust ∷ of 5 case_a map_e robust ∷ of 6 case_a map_e robust ∷ [])
    ∷ (of 1 case_g [] robust ∷ of 3 case_g [] first ∷ of 4 case_g [] (opened (1, 2) ((3, 4) ∷ [])) ∷ of 5 case_g [] first ∷ of 6 case_g [] first ∷ [])
    ∷ (of 1 case_f [] robust ∷ of 3 case_f [] around ∷ of 5 case_f [] around ∷ of 6 case_f [] around ∷ [])
    ∷ (of 1 case_h [] around ∷ of 5 case_h [] around ∷ of 6 case_h [] robust ∷ [])
    ∷ (of 1 (case_j block) [] alone ∷ of 5 (case_j block) [] alone ∷ of 6 (case_j block) [] robust ∷ [])
    ∷ (of 1 (case_j x) [] robust ∷ [])
    ∷ always case_k []
    ∷ of_writes case_l alone
    ∷ (of 1 neighbours [] robust ∷ of 2 neighbours [] robust ∷ [])
    ∷ []

-- "And where somebody writes a cell that is read, or nobody does"
abbrev pub written : List (List Case)
written =
    (of 1 written_k [] (opened (0, 1) ((1, 0) ∷ [])) ∷ of 5 written_k [] (opened (0, 1) ((1, 0) ∷ [])) ∷ of 6 written_k [] (opened (1, 0) ((0, 1) ∷ [])) ∷ [])
    ∷ always readers []
    ∷ always (also 2 WRITE x readers) []
    ∷ on_arm (also 3 RMW y (also 2 WRITE x readers)) forth
    ∷ on_arm (also 2 WRITE 0 readers) forth
    ∷ on_arm (also 2 RMW 0 readers) forth
    ∷ always (also 3 FENCE 0 (also 2 PLAIN 0 readers)) []
    ∷ always unknown_read []
    ∷ on_arm (also 2 WRITE x unknown_read) alone
    ∷ always both_unknown []
    ∷ on_arm (also 1 WRITE z both_unknown) alone
    ∷ []

-- "And where a pair is joined to itself, as in J and L, or is not"
abbrev pub joined : List (List Case)
joined =
    of_writes block_loop (opened (0, 0) [])
    ∷ of_writes (in_row WRITE x WRITE 0) alone
    ∷ on_arm (in_row READ block WRITE block) alone
    ∷ always (in_row WRITE x WRITE y) []
    ∷ always case_l map_l
    ∷ []

abbrev pub cases : List (List Case)
cases = lettered ++ (written ++ joined)

-- the row is right
abbrev pub Right : Case → Type 0
Right c = Judged c.question (patched c.listing c.map) c.verdict
