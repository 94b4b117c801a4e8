-- Tables of refusals, one after another.
use Rattle.listing.specs.Rules.{Refusal, passed, refused}

-- one table after another
abbrev pub or_else : Refusal → Refusal → Refusal
or_else passed y = y
or_else (refused k p) y = refused k p
