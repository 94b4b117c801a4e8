-- `fencing::put_patched` meets its contract.
use mathlib.Core.Path.{◌≡◌, sym}
use Prim.Native.Nat.{◌+◌, ◌≤◌}
use native.Mathlib.Omega.{arith}
use lib.ListN.{length}
use Rattle.listing.specs.Bytes.{version_of, count_f, record_at, nodes_of}
use Rattle.listing.proofs.Nodes.{nodes_length}
use Rattle.order.specs.Patched.{places}
use Rattle.fencing.specs.Marks.{marks_of}
use Rattle.fencing.proofs.Marks.{mapped}
use Rattle.fencing.proofs.AllParts.{all_put}
use Rattle.fencing.proofs.put_patched.Goals as goal

pub returns : goal.returns
returns c =
    let a = c.args in
    let s = a.listing.now in
    let bytes = a.map.now in
    let many = nodes_length s in
    let room : record_at (length (nodes_of s) + places (marks_of bytes)) ≤ length a.out.now = omega (arith, c.requires.1) in
    let count : c.nodes.result + c.places.result ≡ length (nodes_of s) + places (marks_of bytes) = omega (arith, c.places.ensures.0, c.nodes.ensures.count) in (
      omega arith,
      all_put (version_of s) (count_f s) (nodes_of s) (marks_of bytes) a.out.now (mapped s bytes c.requires.0) room
          c.version-version.ensures.0 c.routines-routines.ensures count (sym many)
          c.put_heading.ensures c.put_nodes.ensures c.put_fences-end.ensures.1,
    )
