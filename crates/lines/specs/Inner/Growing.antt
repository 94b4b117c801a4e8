-- A line that grows by a text.
use Rattle.std.specs.Prelude.{◌≡◌, List, ℕ, ◌+◌, ◌≤◌, length}
use Rattle.std.specs.Borrow.{MutBor}
use Rattle.lines.specs.declared.Line.{Line}
use Rattle.lines.specs.Inner.Put.{Put}

-- it is the lent buffer, and nothing is put yet
pub record Starts (buffer : MutBor (List ℕ)) (line : Line) : Type 0 where
  pub same : line.buffer.ghost_name ≡ buffer.ghost_name
  pub bytes : line.buffer.now ≡ buffer.now
  pub start : line.end ≡ 0

-- its buffer has room for a text
abbrev pub HasRoom : Line → List ℕ → Type 0
HasRoom line text = line.end + length text ≤ length line.buffer.now

-- it has the text at its end, in the buffer that it had
pub record Grows (old : Line) (text : List ℕ) (new : Line) : Type 0 where
  pub same : new.buffer.ghost_name ≡ old.buffer.ghost_name
  pub size : length new.buffer.now ≡ length old.buffer.now
  pub put : Put old.buffer.now old.end text new.buffer.now new.end
