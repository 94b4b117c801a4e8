-- Which row of the tables of a map applies, check by check, and what a listing and a map that pass have.
use mathlib.Core.Path.{◌≡◌, refl, sym, ap, ◌∙◌}
use mathlib.Core.Bool.{Bool, true, false, cond}
use mathlib.Core.List.{List, [], ◌∷◌, ◌++◌}
use Prim.Native.Nat.{ℕ, suc, ◌+◌, ◌<◌}
use Rattle.std.specs.Prelude.{Option, Some, None}
use Rattle.std.specs.List.{position, position_from}
use Rattle.std.proofs.lemmas.Iterator.Adapters.{position_from-zero}
use native.Mathlib.Numerals.{add-one}
use lib.ListN.{length}
use lib.Dec.{ltb}
use borrow.Author.Tests.{lt-ltb, le-ltb, eq-eqb, ne_eqb, ltb-false, eqb-true, not-false}
use Rattle.listing.specs.Limits.{NODES}
use Rattle.listing.specs.Node.{Listing}
use Rattle.listing.specs.Bytes.{count_n, nodes_of}
use Rattle.listing.specs.Rules.{Rule, Refusal, passed, refused, first_of}
use Rattle.listing.proofs.Table.{pass, stop, pass_first, pass_then, none_applies}
use Rattle.order.specs.Patched.{Marks, places, patched}
use Rattle.reader.specs.Read.{read_rules, Admitted}
use Rattle.fencing.specs.Marks.{marks_of}
use Rattle.fencing.specs.Inner.MapFits.{MapFits}
use Rattle.verdict.proofs.Refusing.{row_applies, row_passes}
use Rattle.patch.specs.Patching.{byte_rules, map_rules, fit_rules, patch_rules}
use Rattle.patch.specs.Accepting.{Fits}

-- the patched listing, of the bytes
abbrev pub patched_of : List ℕ → List ℕ → Listing
patched_of s map = patched (nodes_of s) (marks_of map)

-- ── Rule 14 ─────────────────────────────────────────────────────────────────
-- 14 where byte r is the first that is wrong
abbrev pub wrong_at : Option ℕ → Refusal
wrong_at (Some r) = refused 14 r
wrong_at None = passed

-- the bytes' rules from i on, by the place of the first byte over 1
rules_from : (i : ℕ) (map : List ℕ) → first_of (byte_rules i map) ≡ wrong_at (position_from (λ x. ltb 1 x) i map)
rules_from i [] = refl
rules_from i (x ∷ xs) = by (ltb 1 x) (rw add-one (rules_from (suc i) xs))
  where
    by : (b : Bool) → first_of (byte_rules (suc i) xs) ≡ wrong_at (position_from (λ x. ltb 1 x) (i + 1) xs)
        → cond b (refused 14 i) (first_of (byte_rules (suc i) xs)) ≡ wrong_at (cond b (Some i) (position_from (λ x. ltb 1 x) (i + 1) xs))
    by true h = refl
    by false h = h

pub wrong_position : (map : List ℕ) (r : Option ℕ) → r ≡ position (λ x. ltb 1 x) map → first_of (byte_rules 0 map) ≡ wrong_at r
wrong_position map r e = rules_from 0 map ∙ ap wrong_at (sym (e ∙ position_from-zero (λ x. ltb 1 x) map))

-- ── Rules 13 to 15 ──────────────────────────────────────────────────────────
module _ (s map : List ℕ) (rest : List Rule) where
  pub length_wrong : (length map ≡ count_n s → ⊥) → first_of (map_rules s map ++ rest) ≡ refused 13 0
  unfolding map_rules
  length_wrong h = simp (ne_eqb (length map) (count_n s) h)

  length_right : length map ≡ count_n s → first_of (map_rules s map ++ rest) ≡ first_of (byte_rules 0 map ++ rest)
  unfolding map_rules
  length_right h = simp (eq-eqb (length map) (count_n s) h)

  module _ (e : length map ≡ count_n s) where
    pub bytes_wrong : (r : ℕ) → first_of (byte_rules 0 map) ≡ refused 14 r → first_of (map_rules s map ++ rest) ≡ refused 14 r
    bytes_wrong r b = length_right e ∙ stop (byte_rules 0 map) rest 14 r b

    pub map_right : first_of (byte_rules 0 map) ≡ passed → first_of (map_rules s map ++ rest) ≡ first_of rest
    map_right b = length_right e ∙ pass (byte_rules 0 map) rest b

module _ (s : List ℕ) (ms : Marks) where
  pub fit_stops : NODES < count_n s + places ms → first_of (fit_rules s ms) ≡ refused 15 0
  fit_stops h = row_applies _ 15 0 (lt-ltb NODES (count_n s + places ms) h)

  pub fit_passes : Fits s ms → first_of (fit_rules s ms) ≡ passed
  fit_passes h = row_passes _ 15 0 (le-ltb NODES (count_n s + places ms) h)

-- ── The listing and its map ─────────────────────────────────────────────────
module _ (s map : List ℕ) where
  pub by_listing : (k p : ℕ) → first_of (read_rules s) ≡ refused k p → first_of (patch_rules s map) ≡ refused k p
  unfolding patch_rules
  by_listing k p e = stop (read_rules s) (map_rules s map ++ fit_rules s (marks_of map)) k p e

  pub by_map : Admitted s → first_of (patch_rules s map) ≡ first_of (map_rules s map ++ fit_rules s (marks_of map))
  unfolding patch_rules
  by_map e = pass (read_rules s) (map_rules s map ++ fit_rules s (marks_of map)) e

  pub passes_admitted : first_of (patch_rules s map) ≡ passed → Admitted s
  unfolding patch_rules
  passes_admitted e = pass_first (read_rules s) (map_rules s map ++ fit_rules s (marks_of map)) e

  of_length : first_of (map_rules s map) ≡ passed → length map ≡ count_n s
  unfolding map_rules
  of_length e = eqb-true _ _ (not-false _ (none_applies (map_rules s map) e).0)

  -- A MAP THAT PASSES FITS ITS LISTING
  pub passes_fits : first_of (patch_rules s map) ≡ passed → MapFits s map
  unfolding patch_rules
  passes_fits e =
      let m = pass_then (read_rules s) (map_rules s map ++ fit_rules s (marks_of map)) e in
      record {
        each = of_length (pass_first (map_rules s map) (fit_rules s (marks_of map)) m);
        few = ltb-false _ _ (none_applies (fit_rules s (marks_of map)) (pass_then (map_rules s map) (fit_rules s (marks_of map)) m)).0;
      }
