-- Tests of a node's kind.
use Rattle.std.specs.Prelude.{◌≡◌, Bool, ℕ}
use Rattle.listing.specs.declared.kind.Kind.{Kind}
use Rattle.listing.specs.Inner.Coded.{number_of}

-- whatever a test gives for a kind is what P says of its number
abbrev pub TestOf : (ℕ → Bool) → (Kind → Bool → Type 0) → Type 0
TestOf P post = (k : Kind) (r : Bool) → post k r → r ≡ P (number_of k)
