-- `reader::search::trail` meets its contract. The loop's invariant: what is found is right but for the links of `next`, and nothing is lost.
use mathlib.Core.Path.{◌≡◌}
use Rattle.listing.specs.Bytes.{count_n, nodes_of}
use Rattle.reader.specs.Inner.Search.{Hunt, Since}
use Rattle.reader.proofs.Hunting.{ahead}
use Rattle.reader.proofs.search.trail.Given as goal

abbrev pub invariant-loop-next : goal.invariant-loop-next
invariant-loop-next l =
    (l.n ≡ count_n l.listing) × Hunt (nodes_of l.listing) l.n l.found l.waiting l.next × Since l.initial.found l.initial.waiting l.found l.waiting

abbrev pub decreases-loop-next : goal.decreases-loop-next
decreases-loop-next l = ahead l.found l.n l.next
