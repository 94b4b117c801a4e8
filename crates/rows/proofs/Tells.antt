-- What an answer of yes or no says: turned round, of an equal statement, of its own test, and with a second answer.
use mathlib.Core.Path.{◌≡◌, sym, subst}
use mathlib.Core.Bool.{Bool, true, false, not}
use lib.Dec.{T}
use Rattle.rows.specs.Inner.Rows.{Tells, Vouches}

-- what the test of a negation says
pub tells_no : (A : Type 0) (b : Bool) → not b ≡ true → Tells b A → A → ⊥
tells_no A true e t = cc
tells_no A false e t = t

pub tells_yes : (A : Type 0) (b : Bool) → not b ≡ false → Tells b A → A
tells_yes A true e t = t
tells_yes A false e t = cc

pub vouched : (A : Type 0) (r : Bool) → not r ≡ false → Vouches r A → A
vouched A true e v = v
vouched A false e v = cc

-- a second answer, where the first is yes
pub tells_and : (A B : Type 0) (b : Bool) → A → Tells b B → Tells b (A × B)
tells_and A B true a t = (a, t)
tells_and A B false a t = λ p. t p.1

-- what an answer says of an equal statement
pub told_map : (A B : Type 0) (r : Bool) → (A → B) → (B → A) → Tells r A → Tells r B
told_map A B true f g h = f h
told_map A B false f g h = λ b. h (g b)

-- A TEST TELLS ITS STATEMENT
pub tells : {r : Bool} (b : Bool) → r ≡ b → Tells r (T b)
tells {r} b e = subst (λ (x : Bool). Tells x (T b)) (sym e) (of b)
  where
    of : (x : Bool) → Tells x (T x)
    of true = tt
    of false = λ t. t
