-- The pairs of a chain buffer and the places of a map, one at a time.
use mathlib.Core.Path.{◌≡◌, refl, sym, ap, ap₂, ◌∙◌}
use mathlib.Core.Bool.{Bool, cond}
use mathlib.Core.List.{List, [], ◌∷◌, ◌++◌}
use Prim.Native.Nat.{ℕ, zero, suc, ◌+◌, ◌/◌, ◌≤◌, ◌<◌}
use native.Mathlib.Numerals.{add-one}
use native.Mathlib.Omega.{arith}
use borrow.Author.Tests.{eq-eqb, ne_eqb}
use lib.ListN.{length, drop, drop_of_length-le}
use Rattle.std.specs.Simd.{first_chunks}
use Rattle.listing.specs.Bytes.{byte}
use Rattle.listing.proofs.Stores as stores
use Rattle.lines.specs.Text.{next, pair}
use Rattle.say.specs.Inner.Answers.{pairs_of, place_of, places_of}

-- ── Pairs ───────────────────────────────────────────────────────────────────
-- n pairs of a buffer that is cut into twos, or as many as there are
abbrev pub pairs_in : ℕ → List (List ℕ) → List ℕ
pairs_in zero cs = []
pairs_in (suc n) [] = []
pairs_in (suc n) (c ∷ cs) = pair (byte c 0) (byte c 1) ++ pairs_in n cs

-- they are the buffer's
pub in_twos : (n k : ℕ) (chain : List ℕ) → k ≡ length chain / 2 → pairs_in n (first_chunks 2 k chain) ≡ pairs_of n chain
in_twos zero k chain e = refl
in_twos (suc n) zero [] e = refl
in_twos (suc n) (suc k) [] e = absurd (omega arith)
in_twos (suc n) zero (a ∷ []) e = refl
in_twos (suc n) (suc k) (a ∷ []) e = absurd (omega arith)
in_twos (suc n) zero (a ∷ b ∷ l) e = absurd (omega arith)
in_twos (suc n) (suc k) (a ∷ b ∷ l) e = ap (λ (t : List ℕ). pair a b ++ t) (in_twos n k l (omega arith))

-- the next of them
pub pair_next : {n a b : ℕ} {c : List ℕ} {all : List (List ℕ)} (m : ℕ) (cs : List (List ℕ)) → a ≡ byte c 0 → b ≡ byte c 1 → all ≡ c ∷ cs → m + 1 ≡ n
    → pairs_in n all ≡ pair a b ++ pairs_in m cs
pair_next {c = c} m cs ea eb e f =
    ap₂ pairs_in (sym f ∙ add-one m) e ∙ ap (λ (t : List ℕ). t ++ pairs_in m cs) (ap₂ pair (sym ea) (sym eb))

-- none is left
pub pairs_end : (n : ℕ) (cs : List (List ℕ)) → (0 < n → length cs ≡ 0) → pairs_in n cs ≡ []
pairs_end zero cs h = refl
pairs_end (suc n) [] h = refl
pairs_end (suc n) (c ∷ cs) h = absurd (omega (arith, h (omega arith)))

-- ── Places ──────────────────────────────────────────────────────────────────
pub is_place : (i x : ℕ) → x ≡ 1 → place_of i x ≡ next i
is_place i x e = ap (λ (b : Bool). cond b (next i) []) (eq-eqb x 1 e)

pub no_place : (i x : ℕ) → (x ≡ 1 → ⊥) → place_of i x ≡ []
no_place i x e = ap (λ (b : Bool). cond b (next i) []) (ne_eqb x 1 e)

pub place_next : (map : List ℕ) (i : ℕ) → i < length map → places_of i (drop i map) ≡ place_of i (byte map i) ++ places_of (i + 1) (drop (i + 1) map)
place_next map i h =
    ap (places_of i) (stores.next map i 0 h)
    ∙ ap (λ (j : ℕ). place_of i (byte map i) ++ places_of j (drop (i + 1) map)) (sym (add-one i))

pub map_ends : (map : List ℕ) (i : ℕ) → length map ≤ i → places_of i (drop i map) ≡ []
map_ends map i h = ap (places_of i) (drop_of_length-le map {i = i} h)
