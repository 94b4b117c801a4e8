-- Rehearsed listings for refusal 18, as one table. It serves a computed test alone: `entries_right` in proofs/Cases.antt says that every row is right.
use Rattle.std.specs.Prelude.{◌≡◌, List, [], ◌∷◌, ℕ}
use Rattle.listing.specs.Kinds.{PLAIN, READ, WRITE}
use Rattle.listing.specs.Node.{none, Listing}
use Rattle.listing.specs.Bytes.{bytes_of}
use Rattle.listing.specs.Rules.{Refusal, passed, refused, first_of}
use Rattle.order.specs.Cases.{at, x, y, case_k}
use Rattle.reader.specs.Read.{read_rules}

-- a row: reading the bytes of the listing, of version 1 and f routines, is refused so, or passes
pub record Case : Type 0 where
  pub routines : ℕ
  pub listing : Listing
  pub reading : Refusal

abbrev pub of : ℕ → Listing → Refusal → Case
of f L r = record { routines = f; listing = L; reading = r }

-- "0 write x, 1 write y"
abbrev cut_off : Listing
cut_off = at 0 WRITE x none none ∷ at 0 WRITE y none none ∷ []

-- "0 write x, 1 write y to 2, 2 read y to 1"
abbrev own_loop : Listing
own_loop = at 0 WRITE x none none ∷ at 0 WRITE y 2 none ∷ at 0 READ y 1 none ∷ []

-- "0 read x, 1 write y to 0"
abbrev backward : Listing
backward = at 0 READ x none none ∷ at 0 WRITE y 0 none ∷ []

-- "0 write x to 2, 1 read y, 2 write y to 1"
abbrev from_above : Listing
from_above = at 0 WRITE x 2 none ∷ at 0 READ y none none ∷ at 0 WRITE y 1 none ∷ []

-- "0 write x, 1 write y, 2 read y; 0 and 2 are of routine 0, 1 is of routine 1"
abbrev two_routines : Listing
two_routines = at 0 WRITE x none none ∷ at 1 WRITE y none none ∷ at 0 READ y none none ∷ []

-- "0 plain to 3, 1 write x to 2, 2 write y, 3 read x"
abbrev lowest_of_two : Listing
lowest_of_two = at 0 PLAIN 0 3 none ∷ at 0 WRITE x 2 none ∷ at 0 WRITE y none none ∷ at 0 READ x none none ∷ []

-- "0 write x, 1 write y, 2 read x with the second successor 0 and no first"
abbrev twelve_first : Listing
twelve_first = at 0 WRITE x none none ∷ at 0 WRITE y none none ∷ at 0 READ x none 0 ∷ []

abbrev pub cases : List Case
cases =
    of 1 cut_off (refused 18 1)
    ∷ of 1 own_loop (refused 18 1)
    ∷ of 1 backward (refused 18 1)
    ∷ of 1 from_above passed
    ∷ of 2 two_routines (refused 18 2)
    ∷ of 1 lowest_of_two (refused 18 1)
    ∷ of 1 twelve_first (refused 12 2)
    ∷ of 1 case_k passed
    ∷ []

-- the row is right
abbrev pub Right : Case → Type 0
Right c = first_of (read_rules (bytes_of 1 c.routines c.listing)) ≡ c.reading
