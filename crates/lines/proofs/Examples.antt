-- Numbers in decimal, computed: no zero leads, and the largest of 64 bits has its twenty digits.
use mathlib.Core.Path.{◌≡◌, refl}
use mathlib.Core.List.{List, [], ◌∷◌, map}
use Prim.Native.Nat.{ℕ, ◌-◌, ◌^◌}
use Prim.Native.String.{String}
use Rattle.listing.specs.Ascii.{bytes}
use Rattle.lines.specs.Text.{decimal, pair}

abbrev numbers : List ℕ
numbers = 0 ∷ 7 ∷ 10 ∷ 99 ∷ 100 ∷ 129 ∷ (2 ^ 64 - 1) ∷ []

abbrev texts : List String
texts = "0" ∷ "7" ∷ "10" ∷ "99" ∷ "100" ∷ "129" ∷ "18446744073709551615" ∷ []

-- EACH NUMBER IS ITS TEXT
pub in_decimal : map decimal numbers ≡ map bytes texts
unfolding decimal
in_decimal = refl

pub as_pair : pair 10 127 ≡ bytes " 10-127"
unfolding decimal
as_pair = refl
