-- Text put at the start of a buffer is the line in it.
use mathlib.Core.Path.{◌≡◌, sym, ap, subst, subst₂, ◌∙◌}
use mathlib.Core.List.{List, ◌++◌}
use Prim.Native.Nat.{ℕ, ◌≤◌}
use native.Mathlib.Omega.{arith}
use lib.ListN.{length, take, drop, length-append}
use lib.Seq.{length-sets, take-append_seam}
use Rattle.io.specs.Counts.{IsPrefixLen}
use Rattle.listing.proofs.Stores.{fills}
use Rattle.lines.specs.Inner.Put.{Put}
use Rattle.lines.specs.declared.Line.{Line}
use Rattle.lines.specs.Inner.Growing.{Starts, Grows}
use Rattle.std.specs.Borrow.{MutBor}
use Rattle.say.specs.Lines.{Lined}

pub lined : {old new text : List ℕ} {r : ℕ} → Put old 0 text new r → r ≤ length new → Lined text old new r
lined {old} {new} {text} {r} p h =
    let same : length new ≡ length old = ap length p.stored ∙ length-sets old 0 text in
    record { holds = p.stored ∙ fills text old (omega (arith, p.goes_on, same)); counts = omega (arith, p.goes_on) }

-- a line that was begun at the start of a buffer
pub lined_whole : {b : MutBor (List ℕ)} {first last : Line} {text : List ℕ} → Starts b first → Grows first text last
    → last.end ≤ length b.now → Lined text b.now last.buffer.now last.end
lined_whole {first = first} {last = last} {text = text} s g h =
    lined (subst₂ (λ (l : List ℕ) (i : ℕ). Put l i text last.buffer.now last.end) s.bytes s.start g.put) (omega (arith, h, g.size, ap length s.bytes))

-- the line of something that is known
pub lined_as : {A : Type 0} (line : A → List ℕ) {a b : A} {old new : List ℕ} {r : ℕ} → a ≡ b → Lined (line b) old new r → Lined (line a) old new r
lined_as {A} line {old = old} {new = new} {r = r} e l = subst (λ (x : A). Lined (line x) old new r) (sym e) l

-- a line's length counts bytes at the start of its buffer
pub line_counts : {line old new : List ℕ} {r : ℕ} → Lined line old new r → IsPrefixLen r new
line_counts {line} {old} {new} {r} l =
    let rest = drop (length line) old in
    let size : length new ≡ length (line ++ rest) = ap length l.holds in
    let front : take r new ≡ line = ap (take r) l.holds ∙ ap (λ (k : ℕ). take k (line ++ rest)) l.counts ∙ take-append_seam line rest in
    (omega (arith, l.counts, size, length-append line rest), l.counts ∙ ap length (sym front))
