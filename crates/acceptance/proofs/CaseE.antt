-- Case A with a fence after 0 and after 2 is accepted, and with one after 0 alone it is open: computed from its 31 bytes.
use mathlib.Core.Path.{◌≡◌, refl, sym, subst, ◌∙◌}
use mathlib.Core.List.{List, [], ◌∷◌, ◌++◌}
use Prim.Native.Nat.{ℕ}
use Rattle.listing.specs.Node.{Listing}
use Rattle.listing.specs.Bytes.{nodes_of}
use Rattle.listing.specs.Rules.{Rule, Refusal, passed, first_of}
use Rattle.listing.proofs.Table.{pass, pass_first, pass_then}
use Rattle.order.specs.Verdict.{Verdict, robust, opened, Judged}
use Rattle.order.specs.Patched.{patched}
use Rattle.order.specs.Cases.{case_a}
use Rattle.order.proofs.Check.{checked}
use Rattle.fencing.specs.Marks.{marks_of}
use Rattle.verdict.specs.Judging.{question_rules}
use Rattle.patch.specs.Patching.{map_rules, fit_rules, patch_rules, ask_rules}
use Rattle.listing.specs.Ascii.{bytes}
use Rattle.reader.specs.Read.{read_rules}
use Rattle.lines.specs.Text.{decimal}
use Rattle.say.proofs.CaseA.{listing, admitted, nodes}
use Rattle.acceptance.specs.Accept.{map_of, accepted_line, PatchedLine, accept_rules, NamedLine, AcceptLine}

-- ── Any nodes named, under question 1 ───────────────────────────────────────
module _ (ks : List ℕ) where
  abbrev map : List ℕ
  map = map_of listing ks

  -- rules 13 to 15
  abbrev of_map : List Rule
  of_map = map_rules listing map ++ fit_rules listing (marks_of map)

  passes : first_of of_map ≡ passed → first_of (accept_rules 1 listing map) ≡ passed
  unfolding ask_rules patch_rules
  passes h =
      pass (question_rules 1) (read_rules listing ++ of_map) (pass_first (question_rules 1) (read_rules listing) admitted)
      ∙ pass (read_rules listing) of_map (pass_then (question_rules 1) (read_rules listing) admitted)
      ∙ h

  named_case : (v : Verdict) (line : List ℕ)
      → first_of of_map ≡ passed → Judged 1 (patched case_a (marks_of map)) v → line ≡ accepted_line v → NamedLine 1 listing ks line
  named_case v line h right words =
      subst
      (λ (f : Refusal). PatchedLine f 1 (patched (nodes_of listing) (marks_of map)) line)
      (sym (passes h))
      (v, subst (λ (L : Listing). Judged 1 (patched L (marks_of map)) v) (sym nodes) right, words)

-- ── A fence after 0 and after 2 ─────────────────────────────────────────────
abbrev both : List ℕ
both = 0x00 ∷ 0x02 ∷ []

both_pass : first_of (of_map both) ≡ passed
unfolding map_rules marks_of
both_pass = refl

-- passes the check that decides a verdict
both_right : Judged 1 (patched case_a (marks_of (map both))) robust
unfolding marks_of
both_right = (checked 1 (patched case_a (marks_of (map both))) robust).0 tt

-- CASE E
pub case_e_line : AcceptLine (0x01 ∷ 0x02 ∷ 0x00 ∷ 0x02 ∷ listing) (bytes "ACCEPTED\n")
case_e_line = named_case both robust (bytes "ACCEPTED\n") both_pass both_right refl

-- ── A fence after 0 alone ───────────────────────────────────────────────────
abbrev one : List ℕ
one = 0x00 ∷ []

abbrev verdict : Verdict
verdict = opened (2, 3) ((0, 1) ∷ [])

one_passes : first_of (of_map one) ≡ passed
unfolding map_rules marks_of
one_passes = refl

one_right : Judged 1 (patched case_a (marks_of (map one))) verdict
unfolding marks_of
one_right = (checked 1 (patched case_a (marks_of (map one))) verdict).0 tt

words : bytes "OPEN 2 3 2 2-3 0-1\n" ≡ accepted_line verdict
unfolding decimal
words = refl

-- CASE D
pub case_d_line : AcceptLine (0x01 ∷ 0x01 ∷ 0x00 ∷ listing) (bytes "OPEN 2 3 2 2-3 0-1\n")
case_d_line = named_case one verdict (bytes "OPEN 2 3 2 2-3 0-1\n") one_passes one_right words
