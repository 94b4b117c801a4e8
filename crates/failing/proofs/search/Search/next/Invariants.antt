-- `Search::next` meets its contract. The loop's invariant: no pair from (a, b) on and before (first, from) fails.
use Prim.Native.Nat.{◌≤◌}
use Rattle.listing.specs.Bytes.{count_n, nodes_of}
use Rattle.order.specs.Verdict.{Before}
use Rattle.failing.proofs.Searching.{NoneBefore}
use Rattle.failing.proofs.search.Search.next.Given as goal

abbrev pub invariant-loop-first : goal.invariant-loop-first
invariant-loop-first l =
    (l.from ≤ count_n l.self.bytes) × (Before (l.first, l.from) (l.a, l.b) → ⊥) × NoneBefore l.self.question (nodes_of l.self.bytes) l.a l.b l.first l.from
