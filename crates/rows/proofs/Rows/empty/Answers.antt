-- `Rows::empty` meets its contract.
use mathlib.Core.Path.{refl}
use Rattle.rows.proofs.AllWords.{blank}
use Rattle.rows.proofs.Rows.empty.Goals as goal

pub returns-clause-blank : goal.returns-clause-blank
returns-clause-blank g c = blank _ refl
