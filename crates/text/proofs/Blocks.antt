-- The pen's ways into the blocks of a loop and an either, and out of a block.
use mathlib.Core.Path.{◌≡◌}
use mathlib.Core.List.{List, [], ◌∷◌}
use Prim.Native.Nat.{ℕ, ◌+◌, ◌/◌, ◌%◌, ◌<◌, ◌≤◌}
use native.Mathlib.Omega.{arith}
use borrow.Author.Tests.{eq-eqb, ne_eqb, lt-ltb, le-ltb}
use Rattle.listing.specs.Kinds.{PLAIN}
use Rattle.words.specs.Words.{Token, Loop, Either, Close}
use Rattle.grammar.specs.Tree.{plain}
use Rattle.text.specs.Inner.Records.{WroteNodes, alone}
use Rattle.text.specs.Inner.Pen.{beyond, past, inside, follows, pen, nodes_at, closed, after}
use Rattle.text.specs.Inner.Writer.{WordWritten}
use Rattle.text.specs.declared.pen.Pen.{Pen}
use Rattle.text.proofs.Wrote.{nodes_written, none_written}

-- ── Into a block ────────────────────────────────────────────────────────────
module _ {old new : List ℕ} (p : Pen) {ws : List Token} {k : ℕ} where
  pub loop_entered : {n to : ℕ} {rest : List Token} → past ws 0 p.number ≡ beyond n rest → to ≡ follows p.exits n rest
      → k ≡ inside p.exits (p.number + 1) → WroteNodes old new p.number (plain p.parts (p.number + 1) to ∷ [])
      → WordWritten old new p (pen p.parts (p.number + 1) k) Loop ws
  unfolding nodes_at after
  loop_entered body leads exits x = nodes_written (rw exits) (rw (body, leads)) x

  pub either_entered : {n m : ℕ} {rest end : List Token} → past ws 0 p.number ≡ beyond n rest → past rest 0 n ≡ beyond m end
      → k ≡ inside p.exits m → WroteNodes old new p.number (plain p.parts (p.number + 1) n ∷ [])
      → WordWritten old new p (pen p.parts (p.number + 1) k) Either ws
  unfolding nodes_at after
  either_entered first second exits x = nodes_written (rw (exits, first, second)) (rw first) x

-- ── Out of a block ──────────────────────────────────────────────────────────
module _ {old : List ℕ} (p : Pen) {ws : List Token} where
  pub part_closed : p.exits ≡ 0 → WordWritten old old p (pen (p.parts + 1) p.number p.exits) Close ws
  unfolding nodes_at after closed
  part_closed e = none_written (rw e) (rw (e, ne_eqb 0 (p.number + 1) (λ z. omega arith)))

  pub second_closed : {new : List ℕ} {to : ℕ} → p.exits % 256 ≡ p.number + 1 → to ≡ follows (p.exits / 256) (p.number + 1) ws
      → WroteNodes old new p.number (alone p.parts PLAIN 0 to) → WordWritten old new p (pen p.parts (p.number + 1) (p.exits / 256)) Close ws
  unfolding nodes_at after closed
  second_closed e leads x =
      nodes_written (rw (ne_eqb p.exits 0 (λ z. omega arith), eq-eqb (p.exits % 256) (p.number + 1) e))
      (rw (eq-eqb (p.exits % 256) (p.number + 1) e, leads)) x

  module _ (some : p.exits ≡ 0 → ⊥) (apart : p.exits % 256 ≡ p.number + 1 → ⊥) where
    pub loop_closed : p.exits % 256 < p.number + 1 → WordWritten old old p (pen p.parts p.number (p.exits / 256)) Close ws
    unfolding nodes_at after closed
    loop_closed h =
        none_written (rw (ne_eqb p.exits 0 some, ne_eqb (p.exits % 256) (p.number + 1) apart, lt-ltb (p.exits % 256) (p.number + 1) h))
        (rw (ne_eqb (p.exits % 256) (p.number + 1) apart))

    -- AN EITHER'S FIRST BLOCK LEAVES THE PEN AS IT IS
    pub first_closed : p.number + 1 ≤ p.exits % 256 → WordWritten old old p p Close ws
    unfolding nodes_at after closed
    first_closed h =
        none_written (rw (ne_eqb p.exits 0 some, ne_eqb (p.exits % 256) (p.number + 1) apart, le-ltb (p.exits % 256) (p.number + 1) h))
        (rw (ne_eqb (p.exits % 256) (p.number + 1) apart))
