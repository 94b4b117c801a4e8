-- What the third demand says of judging with a map: which calls it speaks of, and when a map is accepted.
use Rattle.std.specs.Prelude.{◌≡◌, true, List, ◌++◌, ℕ, ◌+◌, ◌≤◌}
use Rattle.listing.specs.Limits.{NODES}
use Rattle.listing.specs.Bytes.{count_n, nodes_of}
use Rattle.listing.specs.Rules.{Rule, passed, first_of}
use Rattle.listing.specs.Answer.{Answer, done}
use Rattle.order.specs.Verdict.{Fails}
use Rattle.order.specs.Patched.{Marks, marked, places}
use Rattle.reader.specs.Read.{read_rules}
use Rattle.fencing.specs.Marks.{marks_of}
use Rattle.verdict.specs.Judging.{question_rules, buffer_rules, CHAIN}
use Rattle.patch.specs.Patching.{map_rules}

-- judge_patch's table without 15
unfoldable pub other_rules : ℕ → List ℕ → List ℕ → List ℕ → List Rule
other_rules q s map chain = question_rules q ++ (read_rules s ++ (map_rules s map ++ buffer_rules CHAIN chain))

-- "calls that no refusal other than 15 meets"
abbrev pub Spoken : ℕ → List ℕ → List ℕ → List ℕ → Type 0
Spoken q s map chain = first_of (other_rules q s map chain) ≡ passed

-- "N + places" is not "over 128"
abbrev pub Fits : List ℕ → Marks → Type 0
Fits s ms = count_n s + places ms ≤ NODES

-- "it is accepted if the answer is ROBUST"
abbrev pub Accepted : Answer → Type 0
Accepted r = r ≡ done 0 0 0

-- a fence after the first access of every failing pair
abbrev pub Serves : ℕ → List ℕ → List ℕ → Type 0
Serves q s map = (a b : ℕ) → Fails q (nodes_of s) a b → marked (marks_of map) a ≡ true

-- `more` has every place of `map`
abbrev pub Adds : List ℕ → List ℕ → Type 0
Adds map more = (a : ℕ) → marked (marks_of map) a ≡ true → marked (marks_of more) a ≡ true
