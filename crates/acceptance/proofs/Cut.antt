-- An input that is cut off behind the longest listing that it can have and one byte more has the same line: what is left is still too long.
use mathlib.Core.Path.{◌≡◌, sym, ap, subst, subst₂, ◌∙◌}
use mathlib.Core.Logic.{◌↔◌}
use mathlib.Core.List.{List, [], ◌∷◌, ◌++◌, append_assoc}
use Prim.Native.Nat.{ℕ, zero, suc, ◌+◌, ◌-◌, ◌≤◌}
use native.Mathlib.Nat.{zero-add, suc-add}
use native.Mathlib.Omega.{arith}
use lib.ListN.{take, drop}
use lib.Seq.{take-nil, take-take}
use Rattle.listing.specs.Bytes.{byte}
use Rattle.listing.specs.Rules.{Rule, Refusal, passed, refused, first_of}
use Rattle.listing.specs.Inner.Numbered.{or_else}
use Rattle.listing.proofs.Table.{first_of_append}
use Rattle.reader.specs.Read.{read_rules}
use Rattle.fencing.specs.Marks.{marks_of}
use Rattle.verdict.specs.Judging.{question_rules}
use Rattle.patch.specs.Patching.{map_rules, fit_rules, patch_rules, ask_rules}
use Rattle.patch.proofs.MapRules.{patched_of}
use Rattle.say.proofs.Cut.{Refuses, KEPT, cut}
use Rattle.acceptance.specs.Accept.{map_of, PatchedLine, accept_rules, NamedLine, AcceptLine, INPUT}

-- what follows the listing's rules
abbrev maps_rules : List ℕ → List ℕ → List Rule
maps_rules s map = map_rules s map ++ fit_rules s (marks_of map)

listing_first : (q : ℕ) (s map : List ℕ) → first_of (accept_rules q s map) ≡ or_else (first_of (ask_rules q s)) (first_of (maps_rules s map))
unfolding patch_rules ask_rules
listing_first q s map =
    ap first_of (sym (append_assoc (question_rules q) (read_rules s) (maps_rules s map)))
    ∙ first_of_append (question_rules q ++ read_rules s) (maps_rules s map)

module _ (q : ℕ) (ks line : List ℕ) where
  -- the line, once it is known what the question and the listing come to
  abbrev Line : Refusal → List ℕ → Type 0
  Line f s = PatchedLine (or_else f (first_of (maps_rules s (map_of s ks)))) q (patched_of s (map_of s ks)) line

  blind : (f : Refusal) (s t : List ℕ) → Refuses f → Line f s → Line f t
  blind passed s t r h = absurd r
  blind (refused k p) s t r h = h

  by_listing : (s : List ℕ) → NamedLine q s ks line ↔ Line (first_of (ask_rules q s)) s
  by_listing s =
      let of : Refusal → Type 0 = λ f. PatchedLine f q (patched_of s (map_of s ks)) line in
      let e = listing_first q s (map_of s ks) in
      (subst of e, subst of (sym e))

  listing_cut : (s : List ℕ) (k : ℕ) → KEPT ≤ k → NamedLine q (take k s) ks line ↔ NamedLine q s ks line
  listing_cut s k h =
      let c = cut Line blind q s k h in (
        λ x. (by_listing s).1 (c.0 ((by_listing (take k s)).0 x)),
        λ x. (by_listing (take k s)).1 (c.1 ((by_listing s).0 x)),
      )

-- what is left behind n bytes of a list that is cut
drop_take : (n m : ℕ) (l : List ℕ) → drop n (take (n + m) l) ≡ take m (drop n l)
drop_take zero m l = ap (λ (k : ℕ). take k l) (zero-add m)
drop_take (suc n) m [] = ap (drop (suc n)) (take-nil (suc n + m)) ∙ sym (take-nil m)
drop_take (suc n) m (x ∷ l) = ap (λ (k : ℕ). drop (suc n) (take k (x ∷ l))) (suc-add n m) ∙ drop_take n m l

-- what is kept behind the question and the count
abbrev REST : ℕ
REST = 255 + KEPT

module _ (q n : ℕ) (rest line : List ℕ) (few : n ≤ 255) where
  parts_cut : NamedLine q (drop n (take REST rest)) (take n (take REST rest)) line ↔ NamedLine q (drop n rest) (take n rest) line
  parts_cut =
      let size : REST ≡ n + (REST - n) = omega arith in
      let nodes : take n (take REST rest) ≡ take n rest = take-take n REST rest (omega arith) in
      let listing : drop n (take REST rest) ≡ take (REST - n) (drop n rest) = ap (λ (k : ℕ). drop n (take k rest)) size ∙ drop_take n (REST - n) rest in
      let c = listing_cut q (take n rest) line (drop n rest) (REST - n) (omega arith) in
      let of : List ℕ → List ℕ → Type 0 = λ s ks. NamedLine q s ks line in
      (λ x. c.0 (subst₂ of listing nodes x), λ x. subst₂ of (sym listing) (sym nodes) (c.1 x))

-- THE FIRST BYTES DECIDE the acceptor's line, of an input whose count of nodes is a byte
pub accept_cut : (input line : List ℕ) → byte input 1 ≤ 255 → AcceptLine (take INPUT input) line ↔ AcceptLine input line
accept_cut [] line h = (λ x. x, λ x. x)
accept_cut (q ∷ []) line h = (λ x. x, λ x. x)
accept_cut (q ∷ n ∷ rest) line h = parts_cut q n rest line h
