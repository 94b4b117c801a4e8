-- `cases::full::put_full`: stores keep the length.
use Rattle.std.proofs.Common.{◌≡◌, length}
use Rattle.listing.specs.Limits.{NODES}
use Rattle.listing.specs.Bytes.{record_at}
use Rattle.cases.proofs.full.put_full.Given as goal

abbrev pub invariant-loop-i : goal.invariant-loop-i
invariant-loop-i l = record_at NODES ≡ length l.out
