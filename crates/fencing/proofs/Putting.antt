-- The patched listing's bytes, node by node, as the writer puts them.
use mathlib.Core.Path.{◌≡◌, refl, sym, ap, ap₂, ◌∙◌}
use mathlib.Core.Bool.{Bool, true, false}
use mathlib.Core.List.{List, ◌∷◌, ◌++◌}
use Prim.Native.Nat.{ℕ, ◌+◌, ◌≤◌, ◌<◌}
use native.Mathlib.Omega.{arith}
use lib.ListN.{length, drop, drop_of_length-le}
use lib.Seq.{sets}
use Rattle.listing.specs.Limits.{RECORD}
use Rattle.listing.specs.Node.{Node, blank, Listing, node}
use Rattle.listing.specs.Bytes.{record_at, node_bytes, nodes_bytes}
use Rattle.listing.proofs.Stores.{next, sets_append}
use Rattle.listing.proofs.RoundTrip.{bytes_append}
use Rattle.order.specs.Patched.{Marks, marked, redirect, fence_after, kept, fences}
use Rattle.fencing.specs.Inner.Putting.{kept_as, fence_if, next_after}

-- a record put with the numbers of the node m puts m's bytes
pub put : (out : List ℕ) (o : ℕ) {out' : List ℕ} {r k l x y : ℕ} (m : Node) (bytes : List ℕ)
    → out' ≡ sets out o (node_bytes (record { routine = r; kind = k; location = l; first = x; second = y }))
    → r ≡ m.routine → k ≡ m.kind → l ≡ m.location → x ≡ m.first → y ≡ m.second
    → node_bytes m ≡ bytes → out' ≡ sets out o bytes
put out o {r = r} {k = k} {l = l} {x = x} {y = y} m bytes e er ek el ex ey eb = e ∙ ap (sets out o) (same ∙ eb)
  where
    same : node_bytes (record { routine = r; kind = k; location = l; first = x; second = y }) ≡ node_bytes m
    same = simp (er, ek, el, ex, ey)

module _ (n : Node) {b : Bool} where
  pub marked_bytes : (k : ℕ) → b ≡ true → node_bytes (redirect n k) ≡ node_bytes (kept_as b n k)
  marked_bytes k e = ap (λ (m : Bool). node_bytes (kept_as m n k)) (sym e)

  pub unmarked_bytes : (k : ℕ) → b ≡ false → node_bytes n ≡ node_bytes (kept_as b n k)
  unmarked_bytes k e = ap (λ (m : Bool). node_bytes (kept_as m n k)) (sym e)

  pub fence_bytes : b ≡ true → node_bytes (fence_after n) ≡ nodes_bytes (fence_if b n)
  fence_bytes e = ap (λ (m : Bool). nodes_bytes (fence_if m n)) (sym e)

  pub nothing_put : (out : List ℕ) (o : ℕ) → b ≡ false → out ≡ sets out o (nodes_bytes (fence_if b n))
  nothing_put out o e = ap (λ (m : Bool). sets out o (nodes_bytes (fence_if m n))) (sym e)

kept_step : (b : Bool) (n : Node) (k : ℕ) (ns : Listing) (ms : Marks) → kept k (n ∷ ns) (b ∷ ms) ≡ kept_as b n k ∷ kept (next_after b k) ns ms
kept_step true n k ns ms = refl
kept_step false n k ns ms = refl

fences_step : (b : Bool) (n : Node) (ns : Listing) (ms : Marks) → fences (n ∷ ns) (b ∷ ms) ≡ fence_if b n ++ fences ns ms
fences_step true n ns ms = refl
fences_step false n ns ms = refl

fence_length : (b : Bool) (n : Node) (k : ℕ) → record_at k + length (nodes_bytes (fence_if b n)) ≡ record_at (next_after b k)
fence_length true n k = omega arith
fence_length false n k = omega arith

module _ (L : Listing) (ms : Marks) where
  -- the old nodes from node i on, the next fence having number k
  abbrev pub kept_from : ℕ → ℕ → List ℕ
  kept_from i k = nodes_bytes (kept k (drop i L) (drop i ms))

  -- the fences after the nodes from node i on
  abbrev pub fences_from : ℕ → List ℕ
  fences_from i = nodes_bytes (fences (drop i L) (drop i ms))

  module _ (i : ℕ) (in-L : i < length L) (in-ms : i < length ms) where
    kept_next : (k : ℕ) → kept_from i k ≡ node_bytes (kept_as (marked ms i) (node L i) k) ++ kept_from (i + 1) (next_after (marked ms i) k)
    kept_next k =
        ap nodes_bytes
        (ap₂ (kept k) (next L i blank in-L) (next ms i false in-ms) ∙ kept_step (marked ms i) (node L i) k (drop (i + 1) L) (drop (i + 1) ms))

    fences_next : fences_from i ≡ nodes_bytes (fence_if (marked ms i) (node L i)) ++ fences_from (i + 1)
    fences_next =
        ap nodes_bytes
        (ap₂ fences (next L i blank in-L) (next ms i false in-ms) ∙ fences_step (marked ms i) (node L i) (drop (i + 1) L) (drop (i + 1) ms))
        ∙ bytes_append (fence_if (marked ms i) (node L i)) (fences (drop (i + 1) L) (drop (i + 1) ms))

    -- what is still to be put after one node more
    pub node_put : (out : List ℕ) (k : ℕ) {out' goal : List ℕ} {k' : ℕ} → k' ≡ next_after (marked ms i) k
        → out' ≡ sets out (record_at i) (node_bytes (kept_as (marked ms i) (node L i) k))
        → sets out (record_at i) (kept_from i k) ≡ goal → sets out' (record_at (i + 1)) (kept_from (i + 1) k') ≡ goal
    node_put out k ek eo inv =
        let at : record_at i + RECORD ≡ record_at (i + 1) = omega arith in
        let one = node_bytes (kept_as (marked ms i) (node L i) k) in
        let rest = kept_from (i + 1) (next_after (marked ms i) k) in
        rw (eo, ek)
        (ap (λ (o : ℕ). sets (sets out (record_at i) one) o rest) (sym at)
        ∙ sym (sets_append out one rest (record_at i))
        ∙ ap (sets out (record_at i)) (sym (kept_next k))
        ∙ inv)

    -- what is still to be put after one place more
    pub fence_put : (out : List ℕ) (k : ℕ) {out' goal : List ℕ} {k' : ℕ} → k' ≡ next_after (marked ms i) k
        → out' ≡ sets out (record_at k) (nodes_bytes (fence_if (marked ms i) (node L i)))
        → sets out (record_at k) (fences_from i) ≡ goal → sets out' (record_at k') (fences_from (i + 1)) ≡ goal
    fence_put out k ek eo inv =
        let one = nodes_bytes (fence_if (marked ms i) (node L i)) in
        rw (eo, ek)
        (ap (λ (o : ℕ). sets (sets out (record_at k) one) o (fences_from (i + 1))) (sym (fence_length (marked ms i) (node L i) k))
        ∙ sym (sets_append out one (fences_from (i + 1)) (record_at k))
        ∙ ap (sets out (record_at k)) (sym fences_next)
        ∙ inv)

  -- NOTHING IS LEFT TO BE PUT PAST THE LAST NODE
  pub nodes_put : (o i k : ℕ) {out goal : List ℕ} → length L ≤ i → sets out o (kept_from i k) ≡ goal → out ≡ goal
  nodes_put o i k {out} h inv = ap (λ (l : Listing). sets out o (nodes_bytes (kept k l (drop i ms)))) (sym (drop_of_length-le L {i = i} h)) ∙ inv

  pub fences_put : (o i : ℕ) {out goal : List ℕ} → length L ≤ i → sets out o (fences_from i) ≡ goal → out ≡ goal
  fences_put o i {out} h inv = ap (λ (l : Listing). sets out o (nodes_bytes (fences l (drop i ms)))) (sym (drop_of_length-le L {i = i} h)) ∙ inv
