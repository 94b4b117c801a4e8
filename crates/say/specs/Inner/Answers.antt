-- The line of an answer and what was written beside it.
use Rattle.std.specs.Prelude.{cond, List, [], ◌∷◌, ◌++◌, ℕ, zero, suc, ◌+◌, ◌*◌, eqb, Result, Ok, Err}
use Rattle.listing.specs.Bytes.{byte}
use Rattle.listing.specs.Reason.{number, place}
use Rattle.listing.specs.declared.reason.Reason.{Reason}
use Rattle.verdict.specs.declared.Verdict.{Verdict}
use Rattle.verdict.specs.declared.Verdict.TheVariants.{Robust, Open}
use Rattle.listing.specs.Ascii.{bytes}
use Rattle.lines.specs.Text.{next, pair}
use Rattle.say.specs.Lines.{refusal_line, open_line, proposal_line}
use Rattle.say.specs.declared.refuses.Refused.{Refused}

-- pair i of a chain buffer
abbrev pub pair_at : List ℕ → ℕ → List ℕ
pair_at chain i = pair (byte chain (2 * i)) (byte chain (2 * i + 1))

-- n pairs of a chain buffer, or as many as it has
abbrev pub pairs_of : ℕ → List ℕ → List ℕ
pairs_of zero chain = []
pairs_of (suc n) [] = []
pairs_of (suc n) (a ∷ []) = []
pairs_of (suc n) (a ∷ b ∷ chain) = pair a b ++ pairs_of n chain

-- a reason's line
abbrev pub reason_line : Reason → List ℕ
reason_line r = refusal_line (number r) (place r)

-- that of any number and place
abbrev pub refused_line : Refused → List ℕ
refused_line r = refusal_line r.number r.place

-- the line of what judging answers and the chain written beside it: with the words for ROBUST, and what number and place a refusal tells
abbrev pub told_by : {R : Type 0} → (R → Refused) → List ℕ → Result Verdict R → List ℕ → List ℕ
told_by told robust (Ok Robust) chain = robust
told_by told robust (Ok (Open a b n)) chain = open_line a b n (pairs_of n chain)
told_by told robust (Err r) chain = refused_line (told r)

abbrev pub judged_by : {R : Type 0} → (R → Refused) → Result Verdict R → List ℕ → List ℕ
judged_by told = told_by told (bytes "ROBUST\n")

-- where it is a reason that refuses
abbrev pub of_reason : Reason → Refused
of_reason r = record { number = number r; place = place r }

abbrev pub told_line : List ℕ → Result Verdict Reason → List ℕ → List ℕ
told_line = told_by of_reason

abbrev pub judged_line : Result Verdict Reason → List ℕ → List ℕ
judged_line = judged_by of_reason

-- one place, where a map's byte is 1
abbrev pub place_of : ℕ → ℕ → List ℕ
place_of i x = cond (eqb x 1) (next i) []

-- those of a map, counted from i
abbrev pub places_of : ℕ → List ℕ → List ℕ
places_of i [] = []
places_of i (x ∷ xs) = place_of i x ++ places_of (suc i) xs

-- the line of what proposing answers and the map written beside it
abbrev pub proposed_by : {R : Type 0} → (R → Refused) → Result ℕ R → List ℕ → List ℕ
proposed_by told (Ok n) map = proposal_line n (places_of 0 map)
proposed_by told (Err r) map = refused_line (told r)

abbrev pub proposed_line : Result ℕ Reason → List ℕ → List ℕ
proposed_line = proposed_by of_reason
