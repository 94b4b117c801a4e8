-- A table of refusals: rows of which the first that applies is taken. Every service has one, put together from the same parts.
use Rattle.std.specs.Prelude.{◌≡◌, Bool, true, false, cond, List, [], ◌∷◌, ℕ}

-- a row: "Refused because", "No." and "Place"
pub record Rule : Type 0 where
  pub when : Bool
  pub number : ℕ
  pub place : ℕ

abbrev pub rule : Bool → ℕ → ℕ → Rule
rule b k p = record { when = b; number = k; place = p }

-- what a table says: nothing is refused, or the number and the place
pub data Refusal : Type 0 where
  passed : Refusal
  refused : ℕ → ℕ → Refusal

-- "Checks run in this order": the first row that applies
abbrev pub first_of : List Rule → Refusal
first_of [] = passed
first_of (r ∷ rs) = cond r.when (refused r.number r.place) (first_of rs)

-- "Each refusal is given exactly under its condition": a row of number k and place p applies, and no row before it does
pub data FirstRow : List Rule → ℕ → ℕ → Type 0 where
  here : {r : Rule} {rs : List Rule} → r.when ≡ true → FirstRow (r ∷ rs) r.number r.place
  later : {r : Rule} {rs : List Rule} {k p : ℕ} → r.when ≡ false → FirstRow rs k p → FirstRow (r ∷ rs) k p

-- no row applies
abbrev pub NoneApplies : List Rule → Type 0
NoneApplies [] = Unit
NoneApplies (r ∷ rs) = (r.when ≡ false) × NoneApplies rs
