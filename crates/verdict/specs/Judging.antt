-- What judging promises: one answer, and one content of the lent chain buffer.
use Rattle.std.specs.Prelude.{◌≡◌, Bool, not, ◌&&◌, List, [], ◌∷◌, ◌++◌, ℕ, ◌+◌, ◌*◌, length, ltb, leb, Result, Ok, Err}
use Rattle.listing.specs.Limits.{NODES}
use Rattle.listing.specs.Node.{Listing}
use Rattle.listing.specs.Bytes.{nodes_of}
use Rattle.listing.specs.Rules.{Rule, rule, Refusal, passed, refused, first_of}
use Rattle.listing.specs.Answer.{Answer, done, open_at, refusal, filled}
use Rattle.listing.specs.Reason.{refused_for}
use Rattle.listing.specs.declared.reason.Reason.{Reason}
use Rattle.order.specs.Chains.{Ends}
use Rattle.order.specs.Need.{QUESTIONS}
use Rattle.order.specs.Verdict.{Verdict, robust, opened, Judged}
use Rattle.reader.specs.Read.{read_rules}
use Rattle.verdict.specs.declared.Verdict.{Verdict as Decided}
use Rattle.verdict.specs.declared.Verdict.TheVariants.{Robust, Open}

-- "question not 1 to 6"
unfoldable pub wrong_question : ℕ → Bool
wrong_question q = not (leb 1 q && leb q QUESTIONS)

-- 1
abbrev pub question_rules : ℕ → List Rule
question_rules q = rule (wrong_question q) 1 0 ∷ []

-- 16: "lent output buffer too short" for what it must have
abbrev pub buffer_rules : ℕ → List ℕ → List Rule
buffer_rules size buffer = rule (ltb (length buffer) size) 16 0 ∷ []

-- "The chain buffer must have 258 bytes": two bytes a pair, and "it never has more than N + 1 pairs"
abbrev pub CHAIN : ℕ
CHAIN = 2 * (NODES + 1)

-- judge's refusals: 1, then 2 to 12 and 18, then 16
unfoldable pub judge_rules : ℕ → List ℕ → List ℕ → List Rule
judge_rules q s chain = question_rules q ++ (read_rules s ++ buffer_rules CHAIN chain)

-- the rules' number and values for each case of what is decided
abbrev pub decided_says : Decided → Answer
decided_says Robust = done 0 0 0
decided_says (Open a b n) = open_at a b n

-- the same of judge's answer
abbrev pub judge_says : Result Decided Reason → Answer
judge_says (Ok v) = decided_says v
judge_says (Err r) = refused_for r

-- "the chain, put as two bytes a pair"
abbrev pub chain_bytes : List Ends → List ℕ
chain_bytes [] = []
chain_bytes (p ∷ ps) = p.0 ∷ p.1 ∷ chain_bytes ps

-- "ROBUST, or OPEN with the first failing pair [..], the number of pairs in its chain, and the chain"
abbrev pub verdict_says : Verdict → Answer
verdict_says robust = done 0 0 0
verdict_says (opened p rest) = open_at p.0 p.1 (length (p ∷ rest))

-- "at the start of a lent chain buffer. ROBUST writes nothing"
abbrev pub verdict_bytes : Verdict → List ℕ
verdict_bytes robust = []
verdict_bytes (opened p rest) = chain_bytes (p ∷ rest)

-- where nothing is refused: the verdict of the listing L, said and written
pub record Told (q : ℕ) (L : Listing) (old new : List ℕ) (r : Answer) : Type 0 where
  pub verdict : Verdict
  pub judged : Judged q L verdict
  pub says : r ≡ verdict_says verdict
  pub writes : new ≡ filled (verdict_bytes verdict) old

-- "A refusal returns its number and place and every lent buffer keeps each byte"
abbrev pub Judging : Refusal → ℕ → Listing → List ℕ → List ℕ → Answer → Type 0
Judging passed q L old new r = Told q L old new r
Judging (refused k p) q L old new r = (r ≡ refusal k p) × (new ≡ old)

-- JUDGE'S PROMISE, of the question, the listing's bytes, the chain buffer before and after, and the answer
abbrev pub JudgePromise : ℕ → List ℕ → List ℕ → List ℕ → Answer → Type 0
JudgePromise q s old new r = Judging (first_of (judge_rules q s old)) q (nodes_of s) old new r
