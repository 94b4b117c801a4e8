-- The nodes that the bytes hold, one by one.
use mathlib.Core.Path.{◌≡◌, refl, ap, ◌∙◌}
use mathlib.Core.List.{List}
use Prim.Native.Nat.{ℕ, zero, suc, ◌+◌, ◌*◌, ◌<◌}
use native.Mathlib.Omega.{arith}
use lib.ListN.{length}
use Rattle.listing.specs.Limits.{HEADING, RECORD}
use Rattle.listing.specs.Node.{node}
use Rattle.listing.specs.Bytes.{count_n, node_from, node_at, nodes_from, nodes_of}

from_length : (s : List ℕ) (o k : ℕ) → length (nodes_from s o k) ≡ k
from_length s o zero = refl
from_length s o (suc k) = ap suc (from_length s (o + RECORD) k)

from_node : (s : List ℕ) (o k i : ℕ) → i < k → node (nodes_from s o k) i ≡ node_from s (o + RECORD * i)
from_node s o zero i h = absurd (omega arith)
from_node s o (suc k) zero h = ap (node_from s) (omega arith)
from_node s o (suc k) (suc i) h = from_node s (o + RECORD) k i (omega arith) ∙ ap (node_from s) (omega arith)

-- there are N of them
pub nodes_length : (s : List ℕ) → length (nodes_of s) ≡ count_n s
unfolding nodes_of
nodes_length s = from_length s HEADING (count_n s)

-- NODE i IS WHAT RECORD i SAYS
pub nodes_at_lem : (s : List ℕ) (i : ℕ) → i < count_n s → node (nodes_of s) i ≡ node_at s i
unfolding nodes_of
nodes_at_lem s i h = from_node s HEADING (count_n s) i h
