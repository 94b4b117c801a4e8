-- A line that grows piece after piece grows by one text, and keeps its room.
use mathlib.Core.Path.{◌≡◌, refl, ap, subst, ◌∙◌}
use mathlib.Core.List.{List, [], ◌++◌}
use Prim.Native.Nat.{ℕ}
use native.Mathlib.Omega.{arith}
use lib.ListN.{length, length-append}
use Rattle.lines.specs.declared.Line.{Line}
use Rattle.lines.specs.Inner.Growing.{HasRoom, Grows}
use Rattle.lines.proofs.Putting.{both_put, Left, all_left, less_left, none_left}

-- ONE PIECE AFTER ANOTHER
pub both_grow : {a b c : Line} {xs ys : List ℕ} → Grows a xs b → Grows b ys c → Grows a (xs ++ ys) c
both_grow g h = record { same = h.same ∙ g.same; size = h.size ∙ g.size; put = both_put g.put h.put }

-- where there is room for both, there is for the first
pub room_first : (a : Line) (xs ys : List ℕ) → HasRoom a (xs ++ ys) → HasRoom a xs
room_first a xs ys h = omega (arith, h, length-append xs ys)

-- and for the second after it
pub room_left : {a b : Line} {xs : List ℕ} (ys : List ℕ) → HasRoom a (xs ++ ys) → Grows a xs b → HasRoom b ys
room_left {xs = xs} ys h g = omega (arith, h, length-append xs ys, g.put.goes_on, g.size)

-- a line that has grown by a part of the whole, and what is left of it
pub record Growing (first : Line) (whole : List ℕ) (now : Line) (rest : List ℕ) : Type 0 where
  pub same : now.buffer.ghost_name ≡ first.buffer.ghost_name
  pub size : length now.buffer.now ≡ length first.buffer.now
  pub left : Left first.buffer.now first.end whole now.buffer.now now.end rest

-- nothing of it yet
pub none_grown : (a : Line) {whole rest : List ℕ} → rest ≡ whole → Growing a whole a rest
none_grown a e = record { same = refl; size = refl; left = all_left e }

-- what is left may be said in another way
pub still_grown : {a b : Line} {whole rest rest' : List ℕ} → Growing a whole b rest → rest ≡ rest' → Growing a whole b rest'
still_grown {a} {b} {whole} h e = subst (Growing a whole b) e h

-- a piece more
pub more_grown : {a b c : Line} {whole rest xs ys : List ℕ} → Growing a whole b rest → rest ≡ xs ++ ys → Grows b xs c → Growing a whole c ys
more_grown h e g = record { same = g.same ∙ h.same; size = g.size ∙ h.size; left = less_left h.left e g.put }

-- all of it
pub all_grown : {a b : Line} {whole rest : List ℕ} → Growing a whole b rest → rest ≡ [] → Grows a whole b
all_grown h e = record { same = h.same; size = h.size; put = none_left h.left e }

-- where there is room for the whole, there is for a piece of what is left
pub room_within : {a b : Line} {whole rest : List ℕ} (xs ys : List ℕ) → HasRoom a whole → Growing a whole b rest → rest ≡ xs ++ ys → HasRoom b xs
room_within xs ys h g e = omega (arith, h, g.left.goes_on, g.size, ap length e, length-append xs ys)
