-- What judging with a map, proposing and writing promise: one answer, and one content of every lent buffer.
use Rattle.std.specs.Prelude.{◌≡◌, Bool, true, false, not, List, [], ◌∷◌, ◌++◌, ℕ, suc, ◌+◌, length, eqb, ltb, Result, Ok, Err}
use Rattle.listing.specs.Limits.{NODES}
use Rattle.listing.specs.Bytes.{version_of, count_f, count_n, record_at, nodes_of, bytes_of}
use Rattle.listing.specs.Rules.{Rule, rule, Refusal, passed, refused, first_of}
use Rattle.listing.specs.Answer.{Answer, done, refusal, filled}
use Rattle.listing.specs.Reason.{refused_for}
use Rattle.listing.specs.declared.reason.Reason.{Reason}
use Rattle.order.specs.Patched.{Marks, places, patched}
use Rattle.order.specs.Proposed.{Proposed}
use Rattle.reader.specs.Read.{read_rules}
use Rattle.verdict.specs.Judging.{question_rules, buffer_rules, CHAIN, Judging}
use Rattle.fencing.specs.Marks.{marks_of}

-- the rules' number and values for each case of an answer that is a number
abbrev pub number_says : Result ℕ Reason → Answer
number_says (Ok n) = done 0 0 n
number_says (Err r) = refused_for r

-- ── The rules of a map ──────────────────────────────────────────────────────
-- 14: "map byte not 0 or 1", at the "index of the first such", counted from i
abbrev pub byte_rules : ℕ → List ℕ → List Rule
byte_rules i [] = []
byte_rules i (x ∷ xs) = rule (ltb 1 x) 14 i ∷ byte_rules (suc i) xs

-- 13: "map length not N", then 14
unfoldable pub map_rules : List ℕ → List ℕ → List Rule
map_rules s map = rule (not (eqb (length map) (count_n s))) 13 0 ∷ byte_rules 0 map

-- 15: "N + places over 128"
abbrev pub fit_rules : List ℕ → Marks → List Rule
fit_rules s ms = rule (ltb NODES (count_n s + places ms)) 15 0 ∷ []

-- what is refused of a listing with its map: 2 to 12 and 18, then 13 to 15
unfoldable pub patch_rules : List ℕ → List ℕ → List Rule
patch_rules s map = read_rules s ++ (map_rules s map ++ fit_rules s (marks_of map))

-- ── Judging with a map ──────────────────────────────────────────────────────
unfoldable pub judge_patch_rules : ℕ → List ℕ → List ℕ → List ℕ → List Rule
judge_patch_rules q s map chain = question_rules q ++ (patch_rules s map ++ buffer_rules CHAIN chain)

-- JUDGE_PATCH'S PROMISE: judge's, of the patched listing. Old nodes keep their numbers there, so it "answers in the old node numbers"
abbrev pub JudgePatchPromise : ℕ → List ℕ → List ℕ → List ℕ → List ℕ → Answer → Type 0
JudgePatchPromise q s map old new r = Judging (first_of (judge_patch_rules q s map old)) q (patched (nodes_of s) (marks_of map)) old new r

-- ── Proposing ───────────────────────────────────────────────────────────────
-- propose's answer: "how many places hold 1"
abbrev pub propose_says : Result ℕ Reason → Answer
propose_says r = number_says r

-- "1 for a fence after it, 0 for none"
abbrev pub map_byte : Bool → ℕ
map_byte true = 1
map_byte false = 0

abbrev pub map_bytes : Marks → List ℕ
map_bytes [] = []
map_bytes (m ∷ ms) = map_byte m ∷ map_bytes ms

-- what is refused before there is a map to write: 1, then 2 to 12 and 18
unfoldable pub ask_rules : ℕ → List ℕ → List Rule
ask_rules q s = question_rules q ++ read_rules s

-- "It gives 15 where the map it would write breaks it", before 16: "the map buffer N"
unfoldable pub offer_rules : List ℕ → Marks → List ℕ → List Rule
offer_rules s ms buffer = fit_rules s ms ++ buffer_rules (count_n s) buffer

-- the map ms, said and written into "the first N bytes", or refused
abbrev pub Offered : Refusal → Marks → List ℕ → List ℕ → Answer → Type 0
Offered passed ms old new r = (r ≡ done 0 0 (places ms)) × (new ≡ filled (map_bytes ms) old)
Offered (refused k p) ms old new r = (r ≡ refusal k p) × (new ≡ old)

abbrev pub Proposing : Refusal → ℕ → List ℕ → List ℕ → List ℕ → Answer → Type 0
Proposing passed q s old new r = (ms : Marks) × Proposed q (nodes_of s) ms × Offered (first_of (offer_rules s ms old)) ms old new r
Proposing (refused k p) q s old new r = (r ≡ refusal k p) × (new ≡ old)

-- PROPOSE'S PROMISE, of the question, the listing's bytes, the map buffer before and after, and the answer
abbrev pub ProposePromise : ℕ → List ℕ → List ℕ → List ℕ → Answer → Type 0
ProposePromise q s old new r = Proposing (first_of (ask_rules q s)) q s old new r

-- ── Writing ─────────────────────────────────────────────────────────────────
-- write's answer: "answers that length"
abbrev pub write_says : Result ℕ Reason → Answer
write_says r = number_says r

-- "7 + 6(N + places)"
abbrev pub written_length : List ℕ → List ℕ → ℕ
written_length s map = record_at (count_n s + places (marks_of map))

unfoldable pub write_rules : List ℕ → List ℕ → List ℕ → List Rule
write_rules s map out = patch_rules s map ++ buffer_rules (written_length s map) out

-- the patched listing's bytes: "Version and F stay"
abbrev pub written_bytes : List ℕ → List ℕ → List ℕ
written_bytes s map = bytes_of (version_of s) (count_f s) (patched (nodes_of s) (marks_of map))

abbrev pub Writing : Refusal → List ℕ → List ℕ → List ℕ → List ℕ → Answer → Type 0
Writing passed s map old new r = (r ≡ done 0 0 (written_length s map)) × (new ≡ filled (written_bytes s map) old)
Writing (refused k p) s map old new r = (r ≡ refusal k p) × (new ≡ old)

-- WRITE'S PROMISE, of the listing's bytes, the map, the listing buffer before and after, and the answer
abbrev pub WritePromise : List ℕ → List ℕ → List ℕ → List ℕ → Answer → Type 0
WritePromise s map old new r = Writing (first_of (write_rules s map old)) s map old new r
