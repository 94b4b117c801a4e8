-- Rows of bytes that are the same are equal.
use mathlib.Core.Path.{◌≡◌, refl, ap, subst}
use mathlib.Core.Bool.{Bool, true, false≢true}
use mathlib.Core.List.{List, [], ◌∷◌}
use Prim.Native.Nat.{ℕ}
use lib.Dec.{eqb}
use lib.ListN.{length}
use borrow.Author.Tests.{eqb-true}
use Rattle.std.specs.Bool.{Decides}
use Rattle.std.proofs.lemmas.Bool.Decides.{same_from_decides, Decides-eqb}
use Rattle.std.specs.Prelude.{nat_eq}
use Rattle.listing.proofs.Bools.{and_both}
use Rattle.words.specs.Words.{same}

pub same_is : (s t : List ℕ) → same s t ≡ true → s ≡ t
same_is [] [] e = refl
same_is [] (b ∷ t) e = absurd (false≢true e)
same_is (a ∷ s) [] e = absurd (false≢true e)
same_is (a ∷ s) (b ∷ t) e =
    let both = and_both (eqb a b) (same s t) e in
    let first = eqb-true a b both.0 in
    let rest = same_is s t both.1 in
    cc

same_self : (s : List ℕ) → same s s ≡ true
same_self [] = refl
same_self (a ∷ s) = rw (same_self s, (Decides-eqb a a).1 refl)

pub same_decides : (s t : List ℕ) → Decides (same s t) (s ≡ t)
same_decides s t = (same_is s t, λ e. subst (λ (u : List ℕ). same s u ≡ true) e (same_self s))

-- what tells of two rows whether they are equal, says what `same` says
pub told : (s t : List ℕ) {r : Bool} → Decides r (s ≡ t) → r ≡ same s t
told s t {r} h = same_from_decides r (same s t) h (same_decides s t)

-- and so does their lengths' difference
pub lengths_differ : (s t : List ℕ) → (length s ≡ length t → ⊥) → nat_eq (length s) (length t) ≡ same s t
lengths_differ s t h = told s t (λ e. absurd (h (eqb-true (length s) (length t) e)), λ e. absurd (h (ap length e)))
