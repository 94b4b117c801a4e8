-- Which locations live: those that a write or an RMW may meet.
use Rattle.std.specs.Prelude.{cond, ℕ, T}
use Rattle.listing.specs.Node.{Listing}
use Rattle.order.specs.Walks.{kind_at, loc_at, is_writer}
use Rattle.order.specs.Chains.{is_unknown, overlap}

-- w is a write or an RMW
abbrev pub Writer : Listing → ℕ → Type 0
Writer L w = T (is_writer (kind_at L w))

-- some write or RMW may meet the location x
abbrev pub Lives : Listing → ℕ → Type 0
Lives L x = (w : ℕ) × Writer L w × T (overlap (loc_at L w) x)

-- the known one of two locations
abbrev pub known : ℕ → ℕ → ℕ
known x y = cond (is_unknown x) y x
