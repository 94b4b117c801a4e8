-- Text put into a line's buffer: what the buffer holds then, and where the line goes on.
use Rattle.std.specs.Prelude.{◌≡◌, List, ℕ, ◌+◌, length}
use Rattle.std.proofs.lemmas.List.Edits.{sets}

pub record Put (old : List ℕ) (at : ℕ) (text : List ℕ) (new : List ℕ) (r : ℕ) : Type 0 where
  pub stored : new ≡ sets old at text
  pub goes_on : r ≡ at + length text
