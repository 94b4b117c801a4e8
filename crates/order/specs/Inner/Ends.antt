-- Barriers as the judge works them out: one fence at a time, for the pairs whose ends it looks at.
use Rattle.std.specs.Prelude.{Bool, true, false, cond, ◌&&◌, ◌||◌, ℕ, eqb}
use Rattle.listing.specs.Kinds.{READ, FENCE, LOAD_FENCE, STORE_FENCE}
use Rattle.order.specs.Walks.{counts_write, counts_rmw, is_fence}
use Rattle.order.specs.Need.{Question, sc_on_x86, sc_on_armv7, x86_on_armv7, armv8_on_armv7, sc_on_armv8, x86_on_armv8}

-- whether barriers look at the ends of a pair: on ARMv8 they do
abbrev pub by_ends : Question → Bool
by_ends sc_on_x86 = false
by_ends sc_on_armv7 = false
by_ends x86_on_armv7 = false
by_ends armv8_on_armv7 = false
by_ends sc_on_armv8 = true
by_ends x86_on_armv8 = true

-- the fence looks at pairs that start with a node of kind k: a load fence at those that start with a read of kind 1, a store fence at those
-- that start with a write, a full fence at all
abbrev pub looks_first : ℕ → ℕ → Bool
looks_first fence k = cond (eqb fence LOAD_FENCE) (eqb k READ) (cond (eqb fence STORE_FENCE) (counts_write k) true)

-- the same of those that end with a node of kind k
abbrev pub looks_second : ℕ → ℕ → Bool
looks_second fence k = cond (eqb fence STORE_FENCE) (counts_write k) true

-- a node of kind k inside is a barrier for the pairs that the fence looks at
abbrev pub bars_with : Question → ℕ → ℕ → Bool
bars_with sc_on_x86 fence k = is_fence k || counts_rmw k
bars_with sc_on_armv7 fence k = is_fence k
bars_with x86_on_armv7 fence k = is_fence k
bars_with armv8_on_armv7 fence k = is_fence k
bars_with sc_on_armv8 fence k = is_fence k || eqb k fence
bars_with x86_on_armv8 fence k = is_fence k || eqb k fence

-- of the fences the one that looks at the fewest pairs, among them those of these kinds
abbrev pub fence_for : ℕ → ℕ → ℕ
fence_for k₁ k₂ = cond (eqb k₁ READ) LOAD_FENCE (cond (counts_write k₁ && counts_write k₂) STORE_FENCE FENCE)
