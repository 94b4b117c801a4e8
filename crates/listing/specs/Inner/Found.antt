-- What a check of the code finds.
use Rattle.std.specs.Prelude.{Result, Ok, Err}
use Rattle.listing.specs.Rules.{Refusal, passed, refused}
use Rattle.listing.specs.Reason.{number, place}
use Rattle.listing.specs.declared.reason.Reason.{Reason}

-- nothing is refused, or the reason's row applies
abbrev pub found : {A : Type 0} → Result A Reason → Refusal
found (Ok a) = passed
found (Err r) = refused (number r) (place r)
