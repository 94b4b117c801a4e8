-- What words say: an access that a word says is of kind 1, 2 or 3.
use mathlib.Core.Bool.{Bool, true, false, cond, ◌||◌}
use mathlib.Core.List.{List, [], ◌∷◌}
use Prim.Native.Nat.{ℕ}
use lib.Dec.{T, eqb}
use Rattle.listing.specs.Kinds.{READ, WRITE, RMW}
use Rattle.words.specs.Words.{Token, Routine, Loop, Either, Open, Close, Fence, Access, Number, Other, Word, meaning}
use Rattle.order.specs.Rows.{All}
use Rattle.grammar.specs.Stands.{saying}

module _ (p : Token → Type 0) where
  taken : (b : Bool) {x y : Token} → p x → p y → p (cond b x y)
  taken true h k = h
  taken false h k = k

  -- what holds of each thing that a word can say holds of what a word says
  pub of_meaning : p Routine → p Loop → p Either → p Open → p Close → p Fence → p (Access READ) → p (Access WRITE) → p (Access RMW)
      → ((n : ℕ) → p (Number n)) → p Other → (w : List ℕ) → p (meaning w)
  unfolding meaning
  of_meaning routine loop either opens closes fence read write rmw number other w = search taken depth 12

-- the kinds of accesses that can be typed
abbrev pub is_typed : ℕ → Bool
is_typed k = eqb k READ || (eqb k WRITE || eqb k RMW)

abbrev pub Said : Token → Type 0
Said Routine = Unit
Said Loop = Unit
Said Either = Unit
Said Open = Unit
Said Close = Unit
Said Fence = Unit
Said (Access k) = T (is_typed k)
Said (Number n) = Unit
Said Other = Unit

-- a word says no other access
said : (w : List ℕ) → Said (meaning w)
said w = of_meaning Said tt tt tt tt tt tt tt tt tt (λ n. tt) tt w

-- EVERY WORD OF A ROW SAYS SUCH A THING
pub all_said : (ws : List Word) → All Said (saying ws)
all_said [] = tt
all_said (w ∷ ws) = (said w.bytes, all_said ws)
