-- Laws of a table of refusals, for every service that has one.
use mathlib.Core.Path.{◌≡◌, refl, sym, ap, ◌∙◌}
use mathlib.Core.Bool.{Bool, true, false, cond}
use mathlib.Core.List.{List, [], ◌∷◌, ◌++◌}
use Prim.Native.Nat.{ℕ}
use native.Mathlib.Omega.{arith}
use Rattle.listing.specs.Rules.{Rule, Refusal, passed, refused, first_of, FirstRow, here, later, NoneApplies}
use Rattle.listing.specs.Inner.Numbered.{or_else}

-- a row that does not apply, and one that does
pub row_passes : {t : Bool} (k p : ℕ) (y : Refusal) → t ≡ false → cond t (refused k p) y ≡ y
row_passes k p y e = ap (λ (b : Bool). cond b (refused k p) y) e

pub row_applies : {t : Bool} (k p : ℕ) (y : Refusal) → t ≡ true → cond t (refused k p) y ≡ refused k p
row_applies k p y e = ap (λ (b : Bool). cond b (refused k p) y) e

-- one table after another
push : (t : Bool) (k p : ℕ) (y z : Refusal) → cond t (refused k p) (or_else y z) ≡ or_else (cond t (refused k p) y) z
push true k p y z = refl
push false k p y z = refl

pub first_of_append : (a b : List Rule) → first_of (a ++ b) ≡ or_else (first_of a) (first_of b)
first_of_append [] b = refl
first_of_append (r ∷ rs) b =
    ap (cond r.when (refused r.number r.place)) (first_of_append rs b)
    ∙ push r.when r.number r.place (first_of rs) (first_of b)

pub pass : (a b : List Rule) → first_of a ≡ passed → first_of (a ++ b) ≡ first_of b
pass a b e = first_of_append a b ∙ ap (λ (y : Refusal). or_else y (first_of b)) e

pub stop : (a b : List Rule) (k p : ℕ) → first_of a ≡ refused k p → first_of (a ++ b) ≡ refused k p
stop a b k p e = first_of_append a b ∙ ap (λ (y : Refusal). or_else y (first_of b)) e

passed_first : (x y : Refusal) → or_else x y ≡ passed → x ≡ passed
passed_first passed y e = refl
passed_first (refused k p) y e = e

passed_then : (x y : Refusal) → or_else x y ≡ passed → y ≡ passed
passed_then passed y e = e
passed_then (refused k p) y e = let z : ◌≡◌ {A = ℕ} 0 1 = cc in absurd (omega arith)

-- two tables pass together exactly if each passes
pub pass_first : (a b : List Rule) → first_of (a ++ b) ≡ passed → first_of a ≡ passed
pass_first a b e = passed_first (first_of a) (first_of b) (sym (first_of_append a b) ∙ e)

pub pass_then : (a b : List Rule) → first_of (a ++ b) ≡ passed → first_of b ≡ passed
pass_then a b e = passed_then (first_of a) (first_of b) (sym (first_of_append a b) ∙ e)

-- nothing is refused exactly if no row applies
off : (t : Bool) (k p : ℕ) (y : Refusal) → cond t (refused k p) y ≡ passed → (t ≡ false) × (y ≡ passed)
off true k p y e = let z : ◌≡◌ {A = ℕ} 0 1 = cc in absurd (omega arith)
off false k p y e = (refl, e)

pub none_applies : (rs : List Rule) → first_of rs ≡ passed → NoneApplies rs
none_applies [] e = tt
none_applies (r ∷ rs) e =
    let o = off r.when r.number r.place (first_of rs) e in
    (o.0, none_applies rs o.1)

pub lets_pass : (rs : List Rule) → NoneApplies rs → first_of rs ≡ passed
lets_pass [] o = refl
lets_pass (r ∷ rs) o = row_passes r.number r.place (first_of rs) o.0 ∙ lets_pass rs o.1

-- A REFUSAL IS GIVEN EXACTLY UNDER ITS CONDITION: its row applies and no row before it does
pub exact : (rs : List Rule) (k p : ℕ) → first_of rs ≡ refused k p → FirstRow rs k p
exact [] k p e = let z : ◌≡◌ {A = ℕ} 0 1 = cc in absurd (omega arith)
exact (r ∷ rs) k p e = row r rs k p r.when refl (exact rs k p) e
  where
    row : (r : Rule) (rs : List Rule) (k p : ℕ) (t : Bool) → r.when ≡ t → (first_of rs ≡ refused k p → FirstRow rs k p)
        → cond t (refused r.number r.place) (first_of rs) ≡ refused k p → FirstRow (r ∷ rs) k p
    row r rs k p true w f e =
        let en : r.number ≡ k = cc in
        let ep : r.place ≡ p = cc in
        rw (← en, ← ep) (here w)
    row r rs k p false w f e = later w (f e)

pub given : {rs : List Rule} {k p : ℕ} → FirstRow rs k p → first_of rs ≡ refused k p
given (here {r = r} {rs = rs} w) = row_applies r.number r.place (first_of rs) w
given (later {r = r} {rs = rs} w f) = row_passes r.number r.place (first_of rs) w ∙ given f
