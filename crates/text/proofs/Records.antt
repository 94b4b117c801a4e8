-- Records put one after another are one row of records.
use mathlib.Core.Path.{◌≡◌, sym, ap, ◌∙◌}
use mathlib.Core.List.{List, ◌++◌}
use Prim.Native.Nat.{ℕ, ◌+◌}
use native.Mathlib.Omega.{arith}
use lib.ListN.{length, length-append}
use lib.Seq.{sets}
use Rattle.listing.specs.Node.{Listing}
use Rattle.listing.specs.Bytes.{record_at, nodes_bytes}
use Rattle.listing.proofs.Stores.{sets_append}
use Rattle.listing.proofs.RoundTrip.{nodes_bytes_length, bytes_append}
use Rattle.text.specs.Inner.Records.{Room, HoldsNodes}

-- ONE ROW AFTER ANOTHER IS ONE ROW
pub in_turn : {o p q : List ℕ} {n k : ℕ} {L M : Listing} → HoldsNodes o p n L → HoldsNodes p q k M → n + length L ≡ k → HoldsNodes o q n (L ++ M)
in_turn {o} {p} {q} {n} {k} {L} {M} x y e =
    let len = nodes_bytes_length L in
    let at : record_at k ≡ record_at n + length (nodes_bytes L) = omega arith in
    record {
      bytes =
          y.bytes
          ∙ rw (x.bytes, at) (sym (sets_append o (nodes_bytes L) (nodes_bytes M) (record_at n)))
          ∙ ap (sets o (record_at n)) (sym (bytes_append L M));
    }

-- room for both is room for the first, and a buffer keeps its room
pub room_for : {out : List ℕ} (n : ℕ) (L M : Listing) → Room (n + length (L ++ M)) out → Room (n + length L) out
room_for n L M r =
    let long = length-append L M in
    let few = r.few in
    let size = r.long in
    record { few = omega arith; long = omega arith }

pub still : {old now : List ℕ} {k : ℕ} → length now ≡ length old → Room k old → Room k now
still kept r = record { few = r.few; long = omega (arith, r.long) }
