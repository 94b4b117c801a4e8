-- What the search leaves of `Search::next`.
use native.Mathlib.Omega.{arith}
use mathlib.Core.Path.{sym}
use Rattle.listing.specs.Bytes.{nodes_of}
use Rattle.listing.proofs.Nodes.{nodes_length}
use Rattle.failing.proofs.Searching.{found, next_first, past_first}
use Rattle.failing.proofs.search.Search.next.Goals as goal

pub returns-in-Some : goal.returns-in-Some
returns-in-Some c =
    let s = c.args.self.now in
    let inv = c.loop-first.invariant in
    let second = c.in-Some.ensures in (
      omega arith,
      found s.question (nodes_of s.bytes) _ _ _ _ _ _ inv.2 second.1 inv.1 (omega arith) second.0,
    )

pub loop-first-preserved : goal.loop-first-preserved
loop-first-preserved c =
    let s = c.args.self.now in
    let inv = c.loop-first.invariant in
    let size = sym (nodes_length s.bytes) in (
      omega arith,
      past_first _ _ _ _ inv.1,
      next_first s.question (nodes_of s.bytes) _ _ _ _ _ _ inv.2 (rw c.in_default.is at c.second.ensures) size (omega arith),
    )
