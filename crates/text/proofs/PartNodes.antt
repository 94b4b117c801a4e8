-- A text's nodes stand part after part: every node is of one part, and part p is routine p.
use mathlib.Core.Path.{◌≡◌, refl, sym, ap, ◌∙◌}
use mathlib.Core.List.{◌++◌}
use Prim.Native.Nat.{ℕ, ◌+◌, ◌-◌, ◌<◌, ◌≤◌}
use native.Mathlib.Nat.{zero-add}
use native.Mathlib.Omega.{arith}
use native.Mathlib.Decide.{dec_lt}
use lib.ListN.{length, get_or, length-append, get_or-append}
use lib.Seq.{get_or-append-add}
use Rattle.listing.specs.Limits.{NODES}
use Rattle.listing.specs.Node.{none, Listing, node, blank}
use Rattle.grammar.specs.Tree.{Block, Text, nothing, part, block_size, block_nodes, parts_of, size_of, nodes_of}
use Rattle.text.specs.Parted.{StartsWith, whole, cut, PartsInRows}
use Rattle.text.proofs.Every.{all_at}
use Rattle.text.proofs.Placed.{Among, Placed, part_placed}
use Rattle.text.proofs.Counts.{block_count, text_count}

-- ── Rows of nodes ───────────────────────────────────────────────────────────
-- L has the nodes M from node n on
pub record Has (L : Listing) (n : ℕ) (M : Listing) : Type 0 where
  pub at : (j : ℕ) → j < length M → node L (n + j) ≡ get_or M j blank

has_itself : (L : Listing) → Has L 0 L
has_itself L = record { at = λ j l. let e : 0 + j ≡ j = omega arith in ap (node L) e }

pub has_front : {L : Listing} {n : ℕ} (M K : Listing) → Has L n (M ++ K) → Has L n M
has_front M K h = record { at = λ j l. h.at j (omega (arith, length-append M K)) ∙ get_or-append M K blank j l }

pub has_back : {L : Listing} {n k : ℕ} (M K : Listing) → length M ≡ k → Has L n (M ++ K) → Has L (n + k) K
has_back {L} {n} {k} M K e h = record { at = at }
  where
    at : (j : ℕ) → j < length K → node L (n + k + j) ≡ get_or K j blank
    at j l =
        let place : n + k + j ≡ n + (length M + j) = omega arith in
        ap (node L) place ∙ h.at (length M + j) (omega (arith, length-append M K)) ∙ get_or-append-add M K j blank

-- ── The first parts of a text ───────────────────────────────────────────────
pub begins_parts : {t u : Text} → StartsWith t u → parts_of u ≤ parts_of t
begins_parts whole = omega arith
begins_parts (cut p) = let h = begins_parts p in omega arith

pub begins_size : {t u : Text} → StartsWith t u → size_of u ≤ size_of t
begins_size whole = omega arith
begins_size (cut p) = let h = begins_size p in omega arith

-- as many parts, the same parts
begins_all : {t v : Text} → StartsWith t v → parts_of v ≡ parts_of t → v ≡ t
begins_all whole e = refl
begins_all (cut p) e = let h = begins_parts p in absurd (omega arith)

begins_one : {t u v : Text} → StartsWith t u → StartsWith t v → parts_of u ≡ parts_of v → u ≡ v
begins_one whole q e = sym (begins_all q (sym e))
begins_one (cut p) whole e = let h = begins_parts p in absurd (omega arith)
begins_one (cut p) (cut q) e = begins_one p q e

begins_has : {t u : Text} → StartsWith t u → Has (nodes_of t) 0 (nodes_of u)
begins_has {t} whole = has_itself (nodes_of t)
begins_has (cut {t = t} {u = u} {b = b} p) = record { at = λ j l. get_or-append (nodes_of t) _ blank (0 + j) (inside j l) ∙ (begins_has p).at j l }
  where
    inside : (j : ℕ) → j < length (nodes_of u) → 0 + j < length (nodes_of t)
    inside j l = omega (arith, text_count t, text_count u, begins_size p)

-- ── The part of a node ──────────────────────────────────────────────────────
-- node a of the text stands in the part that follows `before`
pub record PartOf (t : Text) (a : ℕ) : Type 0 where
  pub before : Text
  pub block : Block
  pub begins : StartsWith t (part before block)
  pub there : Among (size_of before) (size_of before + block_size block) a

pub part_of : (t : Text) (a : ℕ) → a < size_of t → PartOf t a
part_of nothing a l = absurd (omega arith)
part_of (part t b) a l = go (dec_lt a (size_of t)) (part_of t a)
  where
    go : Dec (a < size_of t) → (a < size_of t → PartOf t a) → PartOf (part t b) a
    go (yes h) f = let p = f h in record { before = p.before; block = p.block; begins = cut p.begins; there = p.there }
    go (no h) f = record { before = t; block = b; begins = whole; there = (omega arith, l) }

module _ {t u : Text} {b : Block} (p : StartsWith t (part u b)) where
  pub part_has : Has (nodes_of t) (size_of u) (block_nodes b (parts_of u) (size_of u) none)
  part_has = rw zero-add at (has_back (nodes_of u) _ (text_count u) (begins_has p))

  module _ (few : size_of t ≤ NODES) (a : ℕ) (in-it : Among (size_of u) (size_of u + block_size b) a) where
    pub placed_at : Placed (parts_of u) (size_of u) (size_of u + block_size b) (node (nodes_of t) a)
    placed_at =
        let M = block_nodes b (parts_of u) (size_of u) none in
        let c = block_count b (parts_of u) (size_of u) none in
        let s = begins_size p in
        let e : a ≡ size_of u + (a - size_of u) = omega arith in
        let l : a - size_of u < length M = omega arith in
        let all = part_placed b (parts_of u) (size_of u) (omega arith) in
        rw (e, part_has.at (a - size_of u) l) (all_at _ M all blank (a - size_of u) l)

-- PART p IS ROUTINE p, WITH ITS NODES IN ONE ROW
pub text_parted : (t : Text) → size_of t ≤ NODES → PartsInRows t
text_parted t few u b p a l = (only, λ h. (placed_at p few a h).routine)
  where
    only : (node (nodes_of t) a).routine ≡ parts_of u → Among (size_of u) (size_of u + block_size b) a
    only e =
        let q = part_of t a l in
        let r = (placed_at q.begins few a q.there).routine in
        let same = begins_one q.begins p (omega arith) in
        let start : size_of q.before ≡ size_of u = cc in
        let size : block_size q.block ≡ block_size b = cc in
        (omega (arith, q.there.0), omega (arith, q.there.1))
