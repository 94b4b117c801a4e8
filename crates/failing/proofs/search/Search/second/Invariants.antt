-- `Search::second` meets its contract. The loop's invariant: no failing pair from `a` has a second node from `b` on that was given.
use Rattle.listing.specs.Bytes.{nodes_of}
use Rattle.rows.proofs.Giving.{Passed}
use Rattle.failing.proofs.Seconds.{NoneYet}
use Rattle.failing.proofs.search.Search.second.Given as goal

abbrev pub invariant-loop-y : goal.invariant-loop-y
invariant-loop-y l = Passed l.initial.y-iterator.w l.a l.n (NoneYet l.self.question (nodes_of l.self.bytes) l.a l.b l.n) l.y-iterator
