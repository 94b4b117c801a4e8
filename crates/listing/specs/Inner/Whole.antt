-- What the reader's and the judge's code stands on: the records are all there.
use Rattle.std.specs.Prelude.{List, ℕ, ◌≤◌, length}
use Rattle.listing.specs.Limits.{NODES}
use Rattle.listing.specs.Bytes.{count_n, record_at}

-- the bytes hold the records of all their nodes: what an accessor needs, and what every listing of right form has
pub record Whole (s : List ℕ) : Type 0 where
  pub few : count_n s ≤ NODES
  pub long : record_at (count_n s) ≤ length s
