-- Reading: the listing's refusals, 2 to 12 and then 18, and the reader's answer.
use Rattle.std.specs.Prelude.{◌≡◌, Bool, true, false, not, List, [], ◌∷◌, ◌++◌, ℕ, zero, suc}
use Rattle.listing.specs.Node.{Listing}
use Rattle.listing.specs.Bytes.{count_f, count_n, nodes_of}
use Rattle.listing.specs.Rules.{Rule, rule, passed, first_of}
use Rattle.listing.specs.Answer.{Answer}
use Rattle.listing.specs.Form.{form_rules, read_by}
use Rattle.order.specs.Entered.{Entered}
use Rattle.order.proofs.Entering.{entered?}

-- the yes or no of a decision: its type says what is decided, and nothing else of it has to be believed
abbrev pub is_yes : {A : Type 0} → Dec A → Bool
is_yes (yes a) = true
is_yes (no f) = false

-- 18: "node neither its routine's entry nor reached from it"
unfoldable pub dead : Listing → ℕ → Bool
dead L a = not (is_yes {A = Entered L a} (entered? L a))

-- "18 comes after 12 on all nodes, and its place is the lowest such node": the rules of k nodes from node i on
abbrev pub dead_rules : Listing → ℕ → ℕ → List Rule
dead_rules L i zero = []
dead_rules L i (suc k) = rule (dead L i) 18 i ∷ dead_rules L (suc i) k

-- the listing's refusals: 2 to 12, then 18
unfoldable pub read_rules : List ℕ → List Rule
read_rules s = form_rules s ++ dead_rules (nodes_of s) 0 (count_n s)

-- a listing that the judge admits
abbrev pub Admitted : List ℕ → Type 0
Admitted s = first_of (read_rules s) ≡ passed

-- what reading answers: "N and F", or the refusal
unfoldable pub read_of : List ℕ → Answer
read_of s = read_by (first_of (read_rules s)) (count_n s) (count_f s)
