-- A reason is told by its number and its place.
use mathlib.Core.Path.{◌≡◌, refl, sym, ap₂, ◌∙◌}
use mathlib.Core.Bool.{cond}
use Prim.Native.Nat.{ℕ}
use lib.Dec.{eqb}
use Rattle.listing.specs.Reason.{number, place}
use Rattle.listing.specs.declared.reason.Reason.{Reason}
use Rattle.listing.specs.declared.reason.Reason.TheVariants as reasons

-- the reason of that number and that place
abbrev reason_of : ℕ → ℕ → Reason
reason_of n p =
    cond (eqb n 1) reasons.Question
    (cond (eqb n 2) reasons.Short
    (cond (eqb n 3) reasons.Mark
    (cond (eqb n 4) reasons.Version
    (cond (eqb n 5) reasons.Routines
    (cond (eqb n 6) reasons.Nodes
    (cond (eqb n 7) reasons.Length
    (cond (eqb n 8) (reasons.Routine p)
    (cond (eqb n 9) (reasons.Kind p)
    (cond (eqb n 10) (reasons.Location p)
    (cond (eqb n 11) (reasons.Successor p)
    (cond (eqb n 12) (reasons.Order p)
    (cond (eqb n 13) reasons.MapLength
    (cond (eqb n 14) (reasons.MapByte p)
    (cond (eqb n 15) reasons.Places
    (cond (eqb n 16) reasons.Buffer
    (cond (eqb n 17) (reasons.Text p) (reasons.Unentered p)))))))))))))))))

told : (r : Reason) → reason_of (number r) (place r) ≡ r
told reasons.Question = refl
told reasons.Short = refl
told reasons.Mark = refl
told reasons.Version = refl
told reasons.Routines = refl
told reasons.Nodes = refl
told reasons.Length = refl
told (reasons.Routine i) = refl
told (reasons.Kind i) = refl
told (reasons.Location i) = refl
told (reasons.Successor i) = refl
told (reasons.Order i) = refl
told reasons.MapLength = refl
told (reasons.MapByte i) = refl
told reasons.Places = refl
told reasons.Buffer = refl
told (reasons.Text i) = refl
told (reasons.Unentered i) = refl

-- REASONS THAT SAY THE SAME ARE EQUAL
pub reasons_apart : (a b : Reason) → number a ≡ number b → place a ≡ place b → a ≡ b
reasons_apart a b n p = sym (told a) ∙ ap₂ reason_of n p ∙ told b
