-- Stores at one place after another.
use mathlib.Core.Path.{◌≡◌, sym, ap, ◌∙◌}
use mathlib.Core.List.{List, [], ◌∷◌, ◌++◌}
use Prim.Native.Nat.{ℕ, suc, ◌+◌, ◌≤◌, ◌<◌}
use native.Mathlib.Nat.{add-zero, add-suc, suc-add}
use native.Mathlib.Numerals.{add-one, towards_suc}
use native.Mathlib.Omega.{arith}
use lib.ListN.{length, get_or, drop, set, drop_of_length-le}
use lib.Seq.{sets, sets-eq, drop-cons}
use Rattle.listing.specs.Answer.{filled}

-- what is left of a list from i on begins with its entry i
pub next : {A : Type 0} (l : List A) (i : ℕ) (d : A) → i < length l → drop i l ≡ get_or l i d ∷ drop (i + 1) l
next l i d h = rw (add-one, drop-cons l i d)

-- one run after another is one run
pub sets_append : (l xs ys : List ℕ) (a : ℕ) → sets l a (xs ++ ys) ≡ sets (sets l a xs) (a + length xs) ys
sets_append l [] ys a = rw add-zero
sets_append l (x ∷ xs) ys a =
    sets_append (set l a x) xs ys (suc a)
    ∙ ap (λ (k : ℕ). sets (sets (set l a x) (suc a) xs) k ys) (suc-add a (length xs) ∙ sym (add-suc a (length xs)))

-- a run from the start on fills the buffer
pub fills : (out old : List ℕ) → length out ≤ length old → sets old 0 out ≡ filled out old
fills out old h =
    let at : 0 + length out ≡ length out = omega arith in
    sets-eq out old 0 (omega arith) ∙ ap (λ (k : ℕ). out ++ drop k old) at

-- a list copied byte by byte: what is still to be put is `from` from i on
module _ (from to : List ℕ) (i : ℕ) {goal : List ℕ} (inv : sets to i (drop i from) ≡ goal) where
  pub byte_copied : i < length from → sets (set to i (get_or from i 0)) (i + 1) (drop (i + 1) from) ≡ goal
  byte_copied h = rw (add-one i) (ap (sets to i) (sym (drop-cons from i 0 h)) ∙ inv)

  pub all_copied : length from ≤ i → to ≡ goal
  all_copied h = ap (sets to i) (sym (drop_of_length-le from {i = i} h)) ∙ inv

-- SIX STORES ARE A RUN
pub six : (l : List ℕ) (at a b c d e f : ℕ)
    → set (set (set (set (set (set l at a) (at + 1) b) (at + 2) c) (at + 3) d) (at + 4) e) (at + 5) f
    ≡ sets l at (a ∷ b ∷ c ∷ d ∷ e ∷ f ∷ [])
six l at a b c d e f = simp towards_suc
