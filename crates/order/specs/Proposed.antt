-- The map that proposing writes.
use Rattle.std.specs.Prelude.{◌≡◌, true, ℕ, length}
use Rattle.listing.specs.Node.{Listing}
use Rattle.order.specs.Verdict.{Fails}
use Rattle.order.specs.Patched.{Marks, marked}

-- "a 1 for the first node of every failing pair and 0 elsewhere"
pub record Proposed (q : ℕ) (L : Listing) (ms : Marks) : Type 0 where
  pub size : length ms ≡ length L
  pub serves : (a b : ℕ) → Fails q L a b → marked ms a ≡ true
  pub spares : (a : ℕ) → marked ms a ≡ true → (b : ℕ) × Fails q L a b
