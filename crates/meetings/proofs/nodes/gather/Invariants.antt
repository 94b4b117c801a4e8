-- `meetings::nodes::gather` meets its contract.
use mathlib.Core.Bool.{Bool}
use Prim.Native.Nat.{ℕ}
use lib.Dec.{T}
use Rattle.listing.specs.Bytes.{nodes_of}
use Rattle.order.specs.Walks.{kind_at}
use Rattle.rows.specs.Inner.Rows.{Members}
use Rattle.meetings.specs.Inner.Tested.{TestOf}
use Rattle.meetings.proofs.nodes.gather.Given as goal

abbrev pub invariant-loop-i : goal.invariant-loop-i
invariant-loop-i g l = (P : ℕ → Bool) → TestOf P (goal.F-post g l.belongs) → Members l.s l.i (λ c. T (P (kind_at (nodes_of l.listing) c)))
