-- The reasons of refusals: what each is in the table, and as an answer.
use Rattle.std.specs.Prelude.{ℕ}
use Rattle.listing.specs.Answer.{Answer, refusal}
use Rattle.listing.specs.declared.reason.Reason.{Reason}
use Rattle.listing.specs.declared.reason.Reason.TheVariants as reasons

-- "No."
abbrev pub number : Reason → ℕ
number reasons.Question = 1
number reasons.Short = 2
number reasons.Mark = 3
number reasons.Version = 4
number reasons.Routines = 5
number reasons.Nodes = 6
number reasons.Length = 7
number (reasons.Routine i) = 8
number (reasons.Kind i) = 9
number (reasons.Location i) = 10
number (reasons.Successor i) = 11
number (reasons.Order i) = 12
number reasons.MapLength = 13
number (reasons.MapByte i) = 14
number reasons.Places = 15
number reasons.Buffer = 16
number (reasons.Text i) = 17
number (reasons.Unentered i) = 18

-- "Place": the node, the index or the byte; "0" where the table has none
abbrev pub place : Reason → ℕ
place reasons.Question = 0
place reasons.Short = 0
place reasons.Mark = 0
place reasons.Version = 0
place reasons.Routines = 0
place reasons.Nodes = 0
place reasons.Length = 0
place (reasons.Routine i) = i
place (reasons.Kind i) = i
place (reasons.Location i) = i
place (reasons.Successor i) = i
place (reasons.Order i) = i
place reasons.MapLength = 0
place (reasons.MapByte i) = i
place reasons.Places = 0
place reasons.Buffer = 0
place (reasons.Text i) = i
place (reasons.Unentered i) = i

-- REFUSED, with number and place
abbrev pub refused_for : Reason → Answer
refused_for r = refusal (number r) (place r)
