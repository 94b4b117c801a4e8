-- `reader::search::entries` meets its contract. The loop's invariant: the entries below `a` are found.
use Rattle.listing.specs.Bytes.{nodes_of}
use Rattle.reader.specs.Inner.Search.{Seen}
use Rattle.reader.proofs.search.entries.Given as goal

abbrev pub invariant-loop-a : goal.invariant-loop-a
invariant-loop-a l = Seen (nodes_of l.listing) l.routines l.found l.a
