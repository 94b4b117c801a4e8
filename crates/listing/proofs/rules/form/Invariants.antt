-- `listing::form` meets its contract. The loop's invariant: the answer is what the rows of the nodes from `i` on say.
use mathlib.Core.Path.{◌≡◌}
use Rattle.listing.specs.Bytes.{count_n}
use Rattle.listing.proofs.Forming.{From}
use Rattle.listing.proofs.rules.form.Given as goal

abbrev pub invariant-loop-i : goal.invariant-loop-i
invariant-loop-i l = (l.listing ≡ l.bytes) × From l.bytes (count_n l.bytes) l.i
