-- What was put of a listing and a map that fit: its records are all there, and they read back as the patched listing.
use mathlib.Core.Path.{◌≡◌, sym, ap, ◌∙◌, subst}
use mathlib.Core.List.{List}
use Prim.Native.Nat.{ℕ, ◌+◌}
use native.Mathlib.Omega.{arith}
use lib.ListN.{length, take, drop}
use lib.Seq.{take_at}
use Rattle.listing.specs.Bytes.{version_of, count_f, count_n, nodes_of}
use Rattle.listing.specs.Inner.Whole.{Whole}
use Rattle.listing.specs.Answer.{filled}
use Rattle.listing.proofs.Nodes.{nodes_length}
use Rattle.listing.proofs.RoundTrip.{bytes_length, read_written}
use Rattle.order.specs.Patched.{places}
use Rattle.order.proofs.Patch.{length_patched}
use Rattle.fencing.specs.Marks.{marks_of}
use Rattle.fencing.specs.Inner.MapFits.{MapFits}
use Rattle.fencing.proofs.Marks.{mapped}
use Rattle.patch.specs.Patching.{written_length, written_bytes}
use Rattle.patch.proofs.MapRules.{patched_of}

module _ (s map : List ℕ) (fits : MapFits s map) where
  count : length (patched_of s map) ≡ count_n s + places (marks_of map)
  count = length_patched (nodes_of s) (marks_of map) (mapped s map fits) ∙ ap (λ (n : ℕ). n + places (marks_of map)) (nodes_length s)

  read_count : count_n (written_bytes s map) ≡ length (patched_of s map)
  read_count = sym (nodes_length (written_bytes s map)) ∙ ap length (read_written (version_of s) (count_f s) (patched_of s map))

  whole : Whole (written_bytes s map)
  whole = record {
    few = omega (arith, read_count, count, fits.few);
    long = omega (arith, read_count, bytes_length (version_of s) (count_f s) (patched_of s map));
  }

  module _ (old out : List ℕ) (n : ℕ) (long : n ≡ written_length s map) (put : out ≡ filled (written_bytes s map) old) where
    front : take n out ≡ written_bytes s map
    front =
        let l : length (written_bytes s map) ≡ n = omega (arith, bytes_length (version_of s) (count_f s) (patched_of s map), count) in
        ap (take n) put ∙ take_at (written_bytes s map) (drop (length (written_bytes s map)) old) n l

    pub put_whole : Whole (take n out)
    put_whole = subst Whole (sym front) whole

    -- WHAT WAS PUT READS BACK AS THE PATCHED LISTING
    pub put_read : nodes_of (take n out) ≡ patched_of s map
    put_read = ap nodes_of front ∙ read_written (version_of s) (count_f s) (patched_of s map)
