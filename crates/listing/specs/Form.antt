-- The refusals of a listing's form, 2 to 12, in the table's order, and a reader's answer.
use Rattle.std.specs.Prelude.{◌≡◌, Bool, not, ◌&&◌, ◌||◌, List, [], ◌∷◌, ◌++◌, ℕ, zero, suc, length, eqb, ltb, leb, Result, Ok, Err}
use Rattle.listing.specs.Limits.{ROUTINES, NODES, HEADING}
use Rattle.listing.specs.Kinds.{is_version, kinds_of, has_no_location}
use Rattle.listing.specs.Node.{none}
use Rattle.listing.specs.Bytes.{byte, version_of, count_f, count_n, record_at, node_at}
use Rattle.listing.specs.Rules.{Rule, rule, Refusal, passed, refused, first_of}
use Rattle.listing.specs.Answer.{Answer, done, refusal}
use Rattle.listing.specs.Reason.{refused_for}
use Rattle.listing.specs.declared.reason.Reason.{Reason}
use Rattle.listing.specs.declared.records.Counts.{Counts}

-- 3: "mark wrong"
unfoldable pub wrong_mark : List ℕ → Bool
wrong_mark s = not (eqb (byte s 0) 0x4F && eqb (byte s 1) 0x52 && eqb (byte s 2) 0x44)

-- 5: "F is 0 or over 16"
unfoldable pub wrong_f : List ℕ → Bool
wrong_f s = eqb (count_f s) 0 || ltb ROUTINES (count_f s)

unfoldable pub heading_rules : List ℕ → List Rule
heading_rules s =
    rule (ltb (length s) HEADING) 2 0
    ∷ rule (wrong_mark s) 3 0
    ∷ rule (not (is_version (version_of s))) 4 0
    ∷ rule (wrong_f s) 5 0
    ∷ rule (ltb NODES (count_n s)) 6 0
    ∷ rule (not (eqb (length s) (record_at (count_n s)))) 7 0
    ∷ []

-- 8: "node's routine not below F"
unfoldable pub wrong_routine : List ℕ → ℕ → Bool
wrong_routine s i = not (ltb (node_at s i).routine (count_f s))

-- 9: "kind over 4 in version 1, over 9 in version 2"
unfoldable pub wrong_kind : List ℕ → ℕ → Bool
wrong_kind s i = leb (kinds_of (version_of s)) (node_at s i).kind

-- 10: "kind 0, 4, 7 or 8 with a location other than 0"
unfoldable pub wrong_location : List ℕ → ℕ → Bool
wrong_location s i = has_no_location (node_at s i).kind && not (eqb (node_at s i).location 0)

-- 11: the successor x of node i is "neither 255 nor below N, or in another routine"
unfoldable pub astray : List ℕ → ℕ → ℕ → Bool
astray s i x = not (eqb x none) && (not (ltb x (count_n s)) || not (eqb (node_at s x).routine (node_at s i).routine))

unfoldable pub wrong_successor : List ℕ → ℕ → Bool
wrong_successor s i = astray s i (node_at s i).first || astray s i (node_at s i).second

-- 12: "second successor without a first, or not larger than it"
unfoldable pub wrong_order : List ℕ → ℕ → Bool
wrong_order s i = not (eqb (node_at s i).second none) && (eqb (node_at s i).first none || leb (node_at s i).second (node_at s i).first)

unfoldable pub node_rules : List ℕ → ℕ → List Rule
node_rules s i =
    rule (wrong_routine s i) 8 i
    ∷ rule (wrong_kind s i) 9 i
    ∷ rule (wrong_location s i) 10 i
    ∷ rule (wrong_successor s i) 11 i
    ∷ rule (wrong_order s i) 12 i
    ∷ []

-- "8 to 12 are all tried on node 0, then on node 1, and so on": the rules of k nodes from node i on
abbrev pub nodes_rules : List ℕ → ℕ → ℕ → List Rule
nodes_rules s i zero = []
nodes_rules s i (suc k) = node_rules s i ++ nodes_rules s (suc i) k

-- the form's refusals, 2 to 12
unfoldable pub form_rules : List ℕ → List Rule
form_rules s = heading_rules s ++ nodes_rules s 0 (count_n s)

-- a listing whose form no rule refuses
abbrev pub Formed : List ℕ → Type 0
Formed s = first_of (form_rules s) ≡ passed

-- the rules' number and values for each case of the reader's answer
abbrev pub read_says : Result Counts Reason → Answer
read_says (Ok c) = done c.nodes c.routines 0
read_says (Err r) = refused_for r

-- the same where what is answered is the listing
abbrev pub listing_says : Result (List ℕ) Reason → Answer
listing_says (Ok s) = done (count_n s) (count_f s) 0
listing_says (Err r) = refused_for r

-- what reading answers: "N and F", or the refusal
abbrev pub read_by : Refusal → ℕ → ℕ → Answer
read_by passed n f = done n f 0
read_by (refused k p) n f = refusal k p

-- what is answered by the form alone
unfoldable pub form_of : List ℕ → Answer
form_of s = read_by (first_of (form_rules s)) (count_n s) (count_f s)
