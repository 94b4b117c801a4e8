-- Heading, old nodes and fences, put one after another, are the patched listing's bytes at the buffer's start.
use mathlib.Core.Path.{◌≡◌, refl, sym, ap, ◌∙◌}
use mathlib.Core.Bool.{true, false}
use mathlib.Core.List.{List, [], ◌∷◌, ◌++◌}
use Prim.Native.Nat.{ℕ, suc, ◌+◌, ◌≤◌}
use native.Mathlib.Omega.{arith}
use lib.ListN.{length}
use lib.Seq.{sets}
use Rattle.listing.specs.Limits.{HEADING}
use Rattle.listing.specs.Node.{Listing}
use Rattle.listing.specs.Bytes.{record_at, heading_bytes, nodes_bytes, bytes_of}
use Rattle.listing.specs.Answer.{filled}
use Rattle.listing.proofs.Stores.{sets_append, fills}
use Rattle.listing.proofs.RoundTrip.{nodes_bytes_length, bytes_append, bytes_length}
use Rattle.order.specs.Patched.{Marks, places, kept, fences, patched}
use Rattle.order.proofs.Patch.{length_patched}

kept_bytes : (k : ℕ) (L : Listing) (ms : Marks) → HEADING + length (nodes_bytes (kept k L ms)) ≡ record_at (length L)
kept_bytes k [] ms = refl
kept_bytes k (n ∷ ns) [] = omega (arith, nodes_bytes_length ns)
kept_bytes k (n ∷ ns) (true ∷ ms) = omega (arith, kept_bytes (suc k) ns ms)
kept_bytes k (n ∷ ns) (false ∷ ms) = omega (arith, kept_bytes k ns ms)

module _ (v f : ℕ) (L : Listing) (ms : Marks) where
  parts : bytes_of v f (patched L ms) ≡ heading_bytes v f (length (patched L ms)) ++ (nodes_bytes (kept (length L) L ms) ++ nodes_bytes (fences L ms))
  unfolding bytes_of
  parts = ap (λ (l : List ℕ). heading_bytes v f (length (patched L ms)) ++ l) (bytes_append (kept (length L) L ms) (fences L ms))

  in_turn : (old : List ℕ)
      → let headed = sets old 0 (heading_bytes v f (length (patched L ms))) in
      sets (sets headed (record_at 0) (nodes_bytes (kept (length L) L ms))) (record_at (length L)) (nodes_bytes (fences L ms))
      ≡ sets old 0 (bytes_of v f (patched L ms))
  in_turn old =
      let head = heading_bytes v f (length (patched L ms)) in
      let nodes = nodes_bytes (kept (length L) L ms) in
      let last = nodes_bytes (fences L ms) in
      ap (λ (o : ℕ). sets (sets (sets old 0 head) HEADING nodes) o last) (sym (kept_bytes (length L) L ms))
      ∙ sym (sets_append (sets old 0 head) nodes last HEADING)
      ∙ sym (sets_append old head (nodes ++ last) 0)
      ∙ ap (sets old 0) (sym parts)

  -- THE PARTS, PUT IN TURN, ARE THE PATCHED LISTING
  pub all_put : (old : List ℕ) {headed noded out : List ℕ} {w g n k : ℕ} → length ms ≤ length L → record_at (length L + places ms) ≤ length old
      → w ≡ v → g ≡ f → n ≡ length L + places ms → k ≡ length L → headed ≡ sets old 0 (heading_bytes w g n)
      → noded ≡ sets headed (record_at 0) (nodes_bytes (kept k L ms)) → out ≡ sets noded (record_at k) (nodes_bytes (fences L ms))
      → out ≡ filled (bytes_of v f (patched L ms)) old
  all_put old fit room ev eg en ek eh ew eo =
      let many = length_patched L ms fit in
      let long : length (bytes_of v f (patched L ms)) ≤ length old = omega (arith, bytes_length v f (patched L ms)) in
      eo
      ∙ rw (ew, eh, ev, eg, en, ek, ← many) (in_turn old)
      ∙ fills (bytes_of v f (patched L ms)) old long
