-- What the check of a text's counts says: the first refusal that applies.
use Rattle.std.specs.Prelude.{List, [], ◌∷◌, ◌||◌, ℕ, eqb, ltb}
use Rattle.listing.specs.Limits.{ROUTINES, NODES}
use Rattle.listing.specs.Bytes.{record_at}
use Rattle.listing.specs.Rules.{Rule, rule}
use Rattle.grammar.specs.declared.Size.{Size}

-- the rules of a text that has so many parts and nodes, with a buffer of `room` bytes
unfoldable pub count_rules : Size → ℕ → List Rule
count_rules size room =
    rule (eqb size.parts 0 || ltb ROUTINES size.parts) 5 0
    ∷ rule (ltb NODES size.nodes) 6 0
    ∷ rule (ltb room (record_at size.nodes)) 16 0
    ∷ []
