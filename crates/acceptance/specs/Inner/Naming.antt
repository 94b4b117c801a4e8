-- The nodes named, as the code draws their map and puts their line.
use Rattle.std.specs.Prelude.{◌≡◌, List, ℕ, ◌<◌, length, Result}
use Rattle.listing.specs.Bytes.{byte}
use Rattle.listing.specs.declared.reason.Reason.{Reason}
use Rattle.verdict.specs.declared.Verdict.{Verdict}
use Rattle.patch.specs.Patching.{map_byte}
use Rattle.listing.specs.Ascii.{bytes}
use Rattle.say.specs.Lines.{Lined}
use Rattle.say.specs.Inner.Answers.{told_line}
use Rattle.acceptance.specs.Accept.{named, NamedLine}

-- each byte of the map says whether its node is named
pub record Drawn (ks map : List ℕ) : Type 0 where
  pub each : (i : ℕ) → i < length map → byte map i ≡ map_byte (named ks i)

-- the line of an answer and the chain written beside it
abbrev pub answer_line : Result Verdict Reason → List ℕ → List ℕ
answer_line = told_line (bytes "ACCEPTED\n")

-- the line of a question, a listing's bytes and the nodes named stands in the buffer
pub record NamedLined (q : ℕ) (s ks old new : List ℕ) (r : ℕ) : Type 0 where
  pub line : List ℕ
  pub says : NamedLine q s ks line
  pub lined : Lined line old new r
