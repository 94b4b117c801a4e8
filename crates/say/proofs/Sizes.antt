-- How much room a line's parts take.
use mathlib.Core.List.{List, [], ◌∷◌}
use mathlib.Core.Bool.{Bool, true, false, cond}
use Prim.Native.Nat.{ℕ, zero, suc, ◌+◌, ◌*◌, ◌≤◌, ◌<◌}
use native.Mathlib.Omega.{arith}
use mir.Val.{Fits}
use mir.Syntax.{w8}
use lib.Dec.{eqb}
use lib.ListN.{length, length-append}
use Rattle.listing.specs.Bytes.{byte}
use Rattle.lines.specs.Text.{next, pair}
use Rattle.lines.proofs.Decimal.{decimal_room, pair_room}
use Rattle.say.specs.Inner.Answers.{pairs_of, place_of, places_of}

-- eight bytes a pair of bytes
pub pairs_room : (n : ℕ) (chain : List ℕ) → ((k : ℕ) → Fits w8 (byte chain k)) → length (pairs_of n chain) ≤ 4 * length chain
pairs_room zero chain h = omega arith
pairs_room (suc n) [] h = omega arith
pairs_room (suc n) (a ∷ []) h = omega arith
pairs_room (suc n) (a ∷ b ∷ l) h =
    omega (arith, length-append (pair a b) (pairs_of n l), pair_room a b (omega (arith, h 0)) (omega (arith, h 1)), pairs_room n l (λ k. h (suc (suc k))))

place_room : (i x : ℕ) → i < 1000 → length (place_of i x) ≤ 4
place_room i x h = of (eqb x 1)
  where
    of : (b : Bool) → length (cond b (next i) []) ≤ 4
    of true = omega (arith, decimal_room 2 i (omega arith))
    of false = omega arith

-- four bytes a place
pub places_room : (i : ℕ) (map : List ℕ) → i + length map ≤ 1000 → length (places_of i map) ≤ 4 * length map
places_room i [] h = omega arith
places_room i (x ∷ xs) h =
    omega (arith, length-append (place_of i x) (places_of (suc i) xs), place_room i x (omega arith), places_room (suc i) xs (omega arith))
