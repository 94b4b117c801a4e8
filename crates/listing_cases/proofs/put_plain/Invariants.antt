-- `listing_cases::put_plain`: stores keep the length.
use Rattle.std.proofs.Common.{◌≡◌, ◌+◌, length}
use Rattle.listing.specs.Limits.{NODES}
use Rattle.listing.specs.Bytes.{record_at}
use Rattle.listing_cases.proofs.put_plain.Given as goal

abbrev pub invariant-loop-i : goal.invariant-loop-i
invariant-loop-i l = record_at (NODES + 1) ≡ length l.out
