-- The limits of a listing, stated once; `Listing::ROUTINES` and the rest of the code's constants are proved to be these.
use Rattle.std.specs.Prelude.{ℕ}

-- "the routine count F (1 to 16)"
abbrev pub ROUTINES : ℕ
ROUTINES = 16

-- "the node count N (0 to 128)"
abbrev pub NODES : ℕ
NODES = 128

-- "Heading, 7 bytes"
abbrev pub HEADING : ℕ
HEADING = 7

-- "N records of 6 bytes"
abbrev pub RECORD : ℕ
RECORD = 6
