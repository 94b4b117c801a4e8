-- A patch map's bytes as marks.
use Rattle.std.specs.Prelude.{Bool, List, map, ℕ, eqb}
use Rattle.order.specs.Patched.{Marks}

-- "1 for a fence after it, 0 for none"
abbrev pub is_mark : ℕ → Bool
is_mark b = eqb b 1

unfoldable pub marks_of : List ℕ → Marks
marks_of bytes = map is_mark bytes
