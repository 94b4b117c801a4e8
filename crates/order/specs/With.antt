-- Serves only theorems (patched_fails, fails_patched, judged_with): the verdict of a listing with a map, said of the old nodes alone.
use Rattle.std.specs.Prelude.{◌≡◌, List, ◌∷◌, false, ℕ}
use Rattle.listing.specs.Node.{Listing}
use Rattle.order.specs.Rows.{All}
use Rattle.order.specs.Chains.{Ends}
use Rattle.order.specs.Verdict.{Fails, Before, Shown, Verdict, robust, opened}
use Rattle.order.specs.Patched.{Marks, marked}

-- "1 for a fence after it": a walk from a with xs inside passes no fence that is put in, if no node that it leaves is marked
abbrev pub Unmarked : Marks → ℕ → List ℕ → Type 0
Unmarked ms a xs = All (λ y. marked ms y ≡ false) (a ∷ xs)

-- "A pair fails if [..] some walk between them has no barrier inside": and that walk passes no fence that is put in
pub record FailsWith (q : ℕ) (L : Listing) (ms : Marks) (a b : ℕ) : Type 0 where
  pub fails : Fails q L a b
  pub walk_open : Unmarked ms a fails.unbarred.0

-- "the first failing pair"
pub record FirstWith (q : ℕ) (L : Listing) (ms : Marks) (p : Ends) : Type 0 where
  pub fails : FailsWith q L ms p.0 p.1
  pub first : (a b : ℕ) → FailsWith q L ms a b → Before (a, b) p → ⊥

-- "A judged patch answers in the old node numbers"
abbrev pub JudgedWith : ℕ → Listing → Marks → Verdict → Type 0
JudgedWith q L ms robust = (a b : ℕ) → FailsWith q L ms a b → ⊥
JudgedWith q L ms (opened p rest) = FirstWith q L ms p × Shown L p rest
