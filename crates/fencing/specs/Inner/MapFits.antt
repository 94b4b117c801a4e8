-- A map that fits its listing: what the writer stands on.
use Rattle.std.specs.Prelude.{◌≡◌, List, ℕ, ◌+◌, ◌≤◌, length}
use Rattle.listing.specs.Limits.{NODES}
use Rattle.listing.specs.Bytes.{count_n}
use Rattle.order.specs.Patched.{places}
use Rattle.fencing.specs.Marks.{marks_of}

-- the map is one of the listing s, with few enough places: what no rule from 13 to 15 refuses but for bytes over 1
pub record MapFits (s bytes : List ℕ) : Type 0 where
  pub each : length bytes ≡ count_n s
  pub few : count_n s + places (marks_of bytes) ≤ NODES
