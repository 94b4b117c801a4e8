-- What the writer leaves is admitted, and reads back as the old nodes with exactly the fences asked for.
use mathlib.Core.Path.{◌≡◌, sym, ap, ◌∙◌, subst}
use mathlib.Core.List.{List}
use Prim.Native.Nat.{ℕ, ◌+◌, ◌≤◌}
use native.Mathlib.Omega.{arith}
use lib.ListN.{length, take, drop}
use lib.Seq.{take_at, drop_at}
use Rattle.listing.specs.Limits.{NODES}
use Rattle.listing.specs.Bytes.{version_of, count_f, count_n, record_at, nodes_of, bytes_of}
use Rattle.listing.specs.Answer.{filled}
use Rattle.listing.proofs.Nodes.{nodes_length}
use Rattle.listing.proofs.RoundTrip.{bytes_length, read_version, read_count_f, read_written}
use Rattle.order.specs.Patched.{places, patched}
use Rattle.order.proofs.Patch.{length_patched}
use Rattle.reader.specs.Read.{Admitted}
use Rattle.reader.proofs.Admitted.{admitted_headed, admitted_valid, admitted_entered, valid_admitted}
use Rattle.fencing.specs.Marks.{marks_of}
use Rattle.fencing.specs.Inner.MapFits.{MapFits}
use Rattle.fencing.specs.Written.{Fenced, Written}
use Rattle.fencing.proofs.Marks.{mapped}
use Rattle.fencing.proofs.PatchedValid.{patched_valid}
use Rattle.fencing.proofs.PatchedEntered.{patched_entered}
use Rattle.fencing.proofs.PatchedFenced.{patched_fenced}

module _ (s bytes : List ℕ) (fits : MapFits s bytes) where
  count : length (patched (nodes_of s) (marks_of bytes)) ≡ count_n s + places (marks_of bytes)
  count = length_patched (nodes_of s) (marks_of bytes) (mapped s bytes fits) ∙ ap (λ (n : ℕ). n + places (marks_of bytes)) (nodes_length s)

  -- A WRITTEN LISTING IS ADMITTED
  pub patched_admitted : Admitted s → Admitted (bytes_of (version_of s) (count_f s) (patched (nodes_of s) (marks_of bytes)))
  patched_admitted e =
      let h = admitted_headed s e in
      let few : length (patched (nodes_of s) (marks_of bytes)) ≤ NODES = omega (arith, count, fits.few) in
      valid_admitted (version_of s) (count_f s) (patched (nodes_of s) (marks_of bytes)) h.version h.some h.routines few
      (patched_valid (nodes_of s) (marks_of bytes) (version_of s) (count_f s) (admitted_valid s e))
      (patched_entered (nodes_of s) (marks_of bytes) (admitted_entered s e))

  -- WHAT IS WRITTEN READS BACK AS THE OLD NODES WITH EXACTLY THE FENCES ASKED FOR
  pub written : (old out : List ℕ) (r : ℕ) → Admitted s → r ≡ record_at (count_n s + places (marks_of bytes))
      → out ≡ filled (bytes_of (version_of s) (count_f s) (patched (nodes_of s) (marks_of bytes))) old → Written s bytes old out r
  written old out r e er eo =
      let v = version_of s in
      let f = count_f s in
      let nodes = patched (nodes_of s) (marks_of bytes) in
      let new = bytes_of v f nodes in
      let long : length new ≡ r = omega (arith, bytes_length v f nodes, count) in
      let front : take r out ≡ new = ap (take r) eo ∙ take_at new (drop (length new) old) r long in
      let read_back : nodes_of (take r out) ≡ nodes = ap nodes_of front ∙ read_written v f nodes in
      record {
        admitted = subst Admitted (sym front) (patched_admitted e);
        version = ap version_of front ∙ read_version v f nodes;
        routines = ap count_f front ∙ read_count_f v f nodes;
        fenced = subst (Fenced (nodes_of s) (marks_of bytes)) (sym read_back) (patched_fenced (nodes_of s) (marks_of bytes) (mapped s bytes fits));
        rest = ap (drop r) eo ∙ drop_at new (drop (length new) old) r long ∙ ap (λ (k : ℕ). drop k old) long;
      }
