-- "For 01 and case A it prints exactly `OPEN 0 1 2 0-1 2-3`", computed from its 31 bytes.
use mathlib.Core.Path.{◌≡◌, refl, sym, subst}
use mathlib.Core.List.{List, [], ◌∷◌}
use Prim.Native.Nat.{ℕ}
use Rattle.listing.specs.Node.{Listing}
use Rattle.listing.specs.Bytes.{nodes_of}
use Rattle.listing.specs.Rules.{Refusal, passed, first_of}
use Rattle.listing.specs.Form.{
  wrong_mark,
  wrong_f,
  heading_rules,
  wrong_routine,
  wrong_kind,
  wrong_location,
  astray,
  wrong_successor,
  wrong_order,
  node_rules,
  form_rules,
}
use Rattle.order.proofs.Entering.{entered?}
use Rattle.order.specs.Verdict.{Verdict, opened, Judged}
use Rattle.order.specs.Cases.{case_a}
use Rattle.order.proofs.Check.{checked}
use Rattle.verdict.specs.Judging.{wrong_question}
use Rattle.patch.specs.Patching.{ask_rules}
use Rattle.listing.specs.Ascii.{bytes}
use Rattle.reader.specs.Read.{dead, read_rules}
use Rattle.lines.specs.Text.{decimal}
use Rattle.say.specs.Lines.{verdict_line, JudgedLine, JudgeLine}

-- "4F 52 44 01 00 02 04 | 00 02 01 00 01 FF | 00 01 02 00 FF FF | 01 02 02 00 03 FF | 01 01 01 00 FF FF"
abbrev pub listing : List ℕ
listing =
    0x4F ∷ 0x52 ∷ 0x44 ∷ 0x01 ∷ 0x00 ∷ 0x02 ∷ 0x04
    ∷ 0x00 ∷ 0x02 ∷ 0x01 ∷ 0x00 ∷ 0x01 ∷ 0xFF
    ∷ 0x00 ∷ 0x01 ∷ 0x02 ∷ 0x00 ∷ 0xFF ∷ 0xFF
    ∷ 0x01 ∷ 0x02 ∷ 0x02 ∷ 0x00 ∷ 0x03 ∷ 0xFF
    ∷ 0x01 ∷ 0x01 ∷ 0x01 ∷ 0x00 ∷ 0xFF ∷ 0xFF
    ∷ []

abbrev verdict : Verdict
verdict = opened (0, 1) ((2, 3) ∷ [])

words : verdict_line verdict ≡ bytes "OPEN 0 1 2 0-1 2-3\n"
unfolding decimal
words = refl

pub admitted : first_of (ask_rules 1 listing) ≡ passed
unfolding ask_rules wrong_question nodes_of read_rules dead entered? form_rules heading_rules
    wrong_mark wrong_f node_rules wrong_routine wrong_kind wrong_location wrong_successor astray wrong_order
admitted = refl

pub nodes : nodes_of listing ≡ case_a
unfolding nodes_of
nodes = refl

-- passes the check that decides a verdict
right : Judged 1 case_a verdict
right = (checked 1 case_a verdict).0 tt

-- THE RULES' EXAMPLE
pub case_a_line : JudgeLine (0x01 ∷ listing) (bytes "OPEN 0 1 2 0-1 2-3\n")
case_a_line =
    subst
    (λ (f : Refusal). JudgedLine f 1 (nodes_of listing) (bytes "OPEN 0 1 2 0-1 2-3\n"))
    (sym admitted)
    (verdict, subst (λ (L : Listing). Judged 1 L verdict) (sym nodes) right, sym words)
