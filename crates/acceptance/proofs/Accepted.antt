-- The line is ACCEPTED exactly if the patch fits and every closed chain of steps of the patched listing has each step in order or free of need.
use mathlib.Core.Path.{◌≡◌, sym, ap, subst, ◌∙◌}
use mathlib.Core.Logic.{◌↔◌}
use mathlib.Core.List.{List, ◌∷◌, ◌++◌}
use Prim.Native.Nat.{ℕ, ◌+◌}
use native.Mathlib.Decide.{dec_le}
use native.Mathlib.Omega.{arith}
use lib.ListN.{take, drop}
use Rattle.listing.specs.Limits.{NODES}
use Rattle.listing.specs.Node.{Listing}
use Rattle.listing.specs.Bytes.{byte, count_n, nodes_of}
use Rattle.listing.specs.Rules.{Refusal, passed, refused, first_of}
use Rattle.listing.proofs.Table.{pass, pass_first, pass_then}
use Rattle.order.specs.Verdict.{Robust, Verdict, robust, opened, Judged}
use Rattle.order.specs.Steps.{Ordered}
use Rattle.order.specs.Patched.{Marks, places, patched}
use Rattle.order.proofs.DemandThree.{robust_ordered, ordered_robust}
use Rattle.fencing.specs.Marks.{marks_of}
use Rattle.verdict.specs.Judging.{question_rules}
use Rattle.patch.specs.Patching.{map_rules, fit_rules, patch_rules}
use Rattle.patch.specs.Accepting.{Fits}
use Rattle.patch.proofs.MapRules.{patched_of, fit_stops, fit_passes}
use Rattle.listing.specs.Ascii.{bytes}
use Rattle.reader.specs.Read.{read_rules}
use Rattle.acceptance.specs.Accept.{map_of, accepted_line, PatchedLine, accept_rules, NamedLine, AcceptLine}

-- ── Which line says ACCEPTED ────────────────────────────────────────────────
abbrev accepted : List ℕ
accepted = bytes "ACCEPTED\n"

-- one that begins with another letter does not
other_letter : (line other : List ℕ) → line ≡ other → (byte other 0 ≡ byte accepted 0 → ⊥) → line ≡ accepted → ⊥
other_letter line other e differ a = differ (ap (λ (l : List ℕ). byte l 0) (sym e ∙ a))

module _ (q : ℕ) (L : Listing) (line : List ℕ) where
  said_robust : (v : Verdict) → Judged q L v → line ≡ accepted_line v → line ≡ accepted → Robust q L
  said_robust robust j e a = j
  said_robust (opened p rest) j e a = absurd (other_letter line _ e (λ d. omega (arith, d)) a)

  robust_said : (v : Verdict) → Judged q L v → line ≡ accepted_line v → Robust q L → line ≡ accepted
  robust_said robust j e h = e
  robust_said (opened p rest) j e h = absurd (h p.0 p.1 j.0.fails)

-- ── Of a question, a listing and the nodes named ────────────────────────────
module _ (q : ℕ) (s ks : List ℕ) where
  abbrev map : List ℕ
  map = map_of s ks

  abbrev L : Listing
  L = patched_of s map

  -- no refusal other than 15 meets it
  module _ (spoken : first_of (question_rules q ++ (read_rules s ++ map_rules s map)) ≡ passed) where
    to_fit : first_of (accept_rules q s map) ≡ first_of (fit_rules s (marks_of map))
    unfolding patch_rules
    to_fit =
        let read = pass_then (question_rules q) (read_rules s ++ map_rules s map) spoken in
        pass (question_rules q) (patch_rules s map) (pass_first (question_rules q) (read_rules s ++ map_rules s map) spoken)
        ∙ pass (read_rules s) (map_rules s map ++ fit_rules s (marks_of map)) (pass_first (read_rules s) (map_rules s map) read)
        ∙ pass (map_rules s map) (fit_rules s (marks_of map)) (pass_then (read_rules s) (map_rules s map) read)

    module _ (line : List ℕ) (says : NamedLine q s ks line) where
      by_table : (f : Refusal) → first_of (accept_rules q s map) ≡ f → PatchedLine f q L line
      by_table f e = subst (λ (x : Refusal). PatchedLine x q L line) e says

      fitting : Fits s (marks_of map) → (line ≡ accepted) ↔ Robust q L
      fitting h =
          let t = by_table passed (to_fit ∙ fit_passes s (marks_of map) h) in
          (said_robust q L line t.0 t.1 t.2, robust_said q L line t.0 t.1 t.2)

      too_many : (Fits s (marks_of map) → ⊥) → line ≡ accepted → ⊥
      too_many n =
          let e = by_table (refused 15 0) (to_fit ∙ fit_stops s (marks_of map) (omega arith)) in
          other_letter line _ e (λ d. omega (arith, d))

      named_accepted : (line ≡ accepted) ↔ (Fits s (marks_of map) × Ordered q L)
      named_accepted = (λ a. go a (dec_le (count_n s + places (marks_of map)) NODES), λ h. (fitting h.0).1 (ordered_robust q L h.1))
        where
          go : line ≡ accepted → Dec (Fits s (marks_of map)) → Fits s (marks_of map) × Ordered q L
          go a (yes h) = (h, robust_ordered q L ((fitting h).0 a))
          go a (no n) = absurd (too_many n a)

-- ── Of an input ─────────────────────────────────────────────────────────────
module _ (q : ℕ) (rest : List ℕ) where
  -- its listing, the nodes that it names, and their marks
  abbrev listing : List ℕ
  listing = drop (byte rest 0) (drop 1 rest)

  abbrev nodes : List ℕ
  nodes = take (byte rest 0) (drop 1 rest)

  abbrev marks : Marks
  marks = marks_of (map_of listing nodes)

  -- THE LINE IS ACCEPTED EXACTLY THEN, where no rule other than 15 refuses
  pub accepted_exactly : (line : List ℕ) → AcceptLine (q ∷ rest) line
      → first_of (question_rules q ++ (read_rules listing ++ map_rules listing (map_of listing nodes))) ≡ passed
      → (line ≡ bytes "ACCEPTED\n") ↔ (Fits listing marks × Ordered q (patched (nodes_of listing) marks))
  accepted_exactly line says spoken = named_accepted q listing nodes spoken line says
