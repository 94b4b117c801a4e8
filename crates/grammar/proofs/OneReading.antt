-- Every text has one reading: its one tree, or 17's one place.
use mathlib.Core.Path.{◌≡◌, refl, sym, ◌∙◌}
use mathlib.Core.Bool.{true≢false}
use mathlib.Core.Logic.{◌⊎◌, inl, inr}
use mathlib.Core.List.{List}
use Prim.Native.Nat.{ℕ}
use Rattle.words.specs.Words.{words}
use Rattle.grammar.specs.Tree.{Text}
use Rattle.grammar.specs.Stands.{BadText, TreeOf}
use Rattle.grammar.specs.Inner.Reader.{Outcome, tree, bad, parse}
use Rattle.grammar.proofs.Standing.{one_tree}
use Rattle.grammar.proofs.Places.{tree_found, bad_found, found_tree, found_bad}

pub one_text : (s : List ℕ) (t u : Text) → TreeOf s t → TreeOf s u → t ≡ u
one_text s t u a b = one_tree (words s) t u a b

pub one_place : (s : List ℕ) (p q : ℕ) → BadText s p → BadText s q → p ≡ q
one_place s p q a b = let e = sym (bad_found s p a) ∙ bad_found s q b in cc

pub not_both : (s : List ℕ) (t : Text) (p : ℕ) → TreeOf s t → BadText s p → ⊥
not_both s t p a b = let e = sym (tree_found s t a) ∙ bad_found s p b in true≢false cc

pub tree_or_bad : (s : List ℕ) → ((t : Text) × TreeOf s t) ⊎ ((p : ℕ) × BadText s p)
tree_or_bad s = go (parse s) refl
  where
    go : (o : Outcome) → parse s ≡ o → ((t : Text) × TreeOf s t) ⊎ ((p : ℕ) × BadText s p)
    go (tree t) e = inl (t, found_tree s t e)
    go (bad p) e = inr (p, found_bad s p e)

-- what a text is, over all trees and all continuations
abbrev pub Reading : List ℕ → Outcome → Type 0
Reading s (tree t) = TreeOf s t
Reading s (bad p) = BadText s p

pub found : (s : List ℕ) (o : Outcome) → parse s ≡ o → Reading s o
found s (tree t) e = found_tree s t e
found s (bad p) e = found_bad s p e

only : (s : List ℕ) (o : Outcome) → Reading s o → parse s ≡ o
only s (tree t) r = tree_found s t r
only s (bad p) r = bad_found s p r

-- NO TEXT HAS TWO READINGS, AND NONE HAS NONE
pub one_reading : (s : List ℕ) → (o : Outcome) × Reading s o × ((q : Outcome) → Reading s q → o ≡ q)
one_reading s = (parse s, found s (parse s) refl, only s)
