-- The form's table, row by row: where no row applies, none of the heading's does and none of any node's, and conversely.
use mathlib.Core.Path.{◌≡◌, refl, ◌∙◌, subst}
use mathlib.Core.List.{List}
use Prim.Native.Nat.{ℕ, zero, suc, ◌+◌, ◌≤◌, ◌<◌}
use native.Mathlib.Omega.{arith}
use native.Mathlib.Decide.{dec_lt}
use Rattle.listing.specs.Rules.{passed, first_of, NoneApplies}
use Rattle.listing.specs.Bytes.{count_n}
use Rattle.listing.specs.Form.{heading_rules, node_rules, nodes_rules, form_rules, Formed}
use Rattle.listing.proofs.Table.{pass, pass_first, pass_then, none_applies, lets_pass}

-- node j's rows let the listing pass
abbrev Passes : List ℕ → ℕ → Type 0
Passes s j = first_of (node_rules s j) ≡ passed

each : (s : List ℕ) (i k : ℕ) → first_of (nodes_rules s i k) ≡ passed → (j : ℕ) → i ≤ j → j < i + k → Passes s j
each s i zero e j low high = absurd (omega arith)
each s i (suc k) e j low high = go (λ h. each s (suc i) k (pass_then (node_rules s i) (nodes_rules s (suc i) k) e) j h (omega arith)) (dec_lt i j)
  where
    go : (i < j → Passes s j) → Dec (i < j) → Passes s j
    go later (yes h) = later h
    go later (no h) =
        let this : i ≡ j = omega arith in
        subst (Passes s) this (pass_first (node_rules s i) (nodes_rules s (suc i) k) e)

every : (s : List ℕ) (i k : ℕ) → ((j : ℕ) → i ≤ j → j < i + k → Passes s j) → first_of (nodes_rules s i k) ≡ passed
every s i zero f = refl
every s i (suc k) f =
    pass (node_rules s i) (nodes_rules s (suc i) k) (f i (omega arith) (omega arith))
    ∙ every s (suc i) k (λ j low high. f j (omega arith) (omega arith))

-- THE ROWS OF A LISTING OF RIGHT FORM: none applies, the heading's or a node's
pub rows_clear : (s : List ℕ) → Formed s → NoneApplies (heading_rules s) × ((j : ℕ) → j < count_n s → NoneApplies (node_rules s j))
unfolding form_rules
rows_clear s e = (
  none_applies (heading_rules s) (pass_first (heading_rules s) (nodes_rules s 0 (count_n s)) e),
  λ j h. none_applies (node_rules s j) (each s 0 (count_n s) (pass_then (heading_rules s) (nodes_rules s 0 (count_n s)) e) j (omega arith) (omega arith)),
)

-- CONVERSELY, where none applies the form is right
pub clear_rows : (s : List ℕ) → NoneApplies (heading_rules s) → ((j : ℕ) → j < count_n s → NoneApplies (node_rules s j)) → Formed s
unfolding form_rules
clear_rows s o f =
    pass (heading_rules s) (nodes_rules s 0 (count_n s)) (lets_pass (heading_rules s) o)
    ∙ every s 0 (count_n s) (λ j low high. lets_pass (node_rules s j) (f j (omega arith)))
