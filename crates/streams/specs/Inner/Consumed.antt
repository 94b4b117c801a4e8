-- What a read that fails leaves of the input.
use Rattle.std.specs.Prelude.{ℕ, List, Option, ◌≤◌, length, take}
use Rattle.std.specs.Io.KnownBytes.{Consumes}

-- some of the input was consumed, and stands at the start of the buffer
abbrev pub ConsumesSome : Option (List ℕ) → Option (List ℕ) → List ℕ → Type 0
ConsumesSome old new buf = (k : ℕ) × (k ≤ length buf) × Consumes old new (take k buf)
