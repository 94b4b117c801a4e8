-- What the patched listing has at each number, and where its links lead.
use mathlib.Core.Path.{◌≡◌, refl, sym, ap, ◌∙◌, subst}
use mathlib.Core.Logic.{◌⊎◌, inl, inr}
use mathlib.Core.List.{[], ◌∷◌}
use mathlib.Core.Bool.{true, false, false≢true}
use Prim.Native.Nat.{ℕ, zero, suc, ◌+◌, ◌-◌, ◌≤◌, ◌<◌}
use native.Mathlib.Nat.{add-zero}
use native.Mathlib.Omega.{arith}
use lib.ListN.{length, get_or, length-append, get_or-append}
use lib.Seq.{get_or-append-add}
use Rattle.listing.specs.Kinds.{FENCE}
use Rattle.listing.specs.Node.{Node, none, blank, Listing, node}
use Rattle.order.specs.Walks.{kind_at, loc_at, Next, Succ}
use Rattle.order.specs.Patched.{Marks, marked, places, redirect, fence_after, kept, fences, patched}
use Rattle.listing.proofs.Bools.{bool?}

-- a successor as the reader admits it: none, or a node
abbrev pub Target : Listing → ℕ → Type 0
Target L s = (s ≡ none) ⊎ (s < length L)

abbrev pub Links : Listing → Type 0
Links L = (a : ℕ) → a < length L → Target L (node L a).first × Target L (node L a).second

-- the number of marks before a
abbrev pub rank : Marks → ℕ → ℕ
rank [] a = 0
rank (m ∷ ms) zero = 0
rank (true ∷ ms) (suc a) = suc (rank ms a)
rank (false ∷ ms) (suc a) = rank ms a

length_kept : (k : ℕ) (L : Listing) (ms : Marks) → length (kept k L ms) ≡ length L
length_kept k [] ms = refl
length_kept k (n ∷ ns) [] = refl
length_kept k (n ∷ ns) (true ∷ ms) = ap suc (length_kept (suc k) ns ms)
length_kept k (n ∷ ns) (false ∷ ms) = ap suc (length_kept k ns ms)

kept_unmarked : (k : ℕ) (L : Listing) (ms : Marks) (a : ℕ) → marked ms a ≡ false → node (kept k L ms) a ≡ node L a
kept_unmarked k [] ms a e = refl
kept_unmarked k (n ∷ ns) [] a e = refl
kept_unmarked k (n ∷ ns) (true ∷ ms) zero e = absurd (false≢true (sym e))
kept_unmarked k (n ∷ ns) (true ∷ ms) (suc a) e = kept_unmarked (suc k) ns ms a e
kept_unmarked k (n ∷ ns) (false ∷ ms) zero e = refl
kept_unmarked k (n ∷ ns) (false ∷ ms) (suc a) e = kept_unmarked k ns ms a e

kept_marked : (k : ℕ) (L : Listing) (ms : Marks) (a : ℕ) → a < length L → marked ms a ≡ true → node (kept k L ms) a ≡ redirect (node L a) (k + rank ms a)
kept_marked k [] ms a h e = absurd (omega arith)
kept_marked k (n ∷ ns) [] a h e = absurd (false≢true e)
kept_marked k (n ∷ ns) (true ∷ ms) zero h e = rw add-zero
kept_marked k (n ∷ ns) (true ∷ ms) (suc a) h e = kept_marked (suc k) ns ms a (omega arith) e ∙ ap (redirect (node ns a)) (omega arith)
kept_marked k (n ∷ ns) (false ∷ ms) zero h e = absurd (false≢true e)
kept_marked k (n ∷ ns) (false ∷ ms) (suc a) h e = kept_marked k ns ms a (omega arith) e

fences_rank : (L : Listing) (ms : Marks) (a : ℕ) → a < length L → marked ms a ≡ true → rank ms a < length (fences L ms)
fences_rank [] ms a h e = absurd (omega arith)
fences_rank (n ∷ ns) [] a h e = absurd (false≢true e)
fences_rank (n ∷ ns) (true ∷ ms) zero h e = omega arith
fences_rank (n ∷ ns) (true ∷ ms) (suc a) h e = omega (arith, fences_rank ns ms a (omega arith) e)
fences_rank (n ∷ ns) (false ∷ ms) zero h e = absurd (false≢true e)
fences_rank (n ∷ ns) (false ∷ ms) (suc a) h e = fences_rank ns ms a (omega arith) e

fences_at : (L : Listing) (ms : Marks) (a : ℕ) → a < length L → marked ms a ≡ true → get_or (fences L ms) (rank ms a) blank ≡ fence_after (node L a)
fences_at [] ms a h e = absurd (omega arith)
fences_at (n ∷ ns) [] a h e = absurd (false≢true e)
fences_at (n ∷ ns) (true ∷ ms) zero h e = refl
fences_at (n ∷ ns) (true ∷ ms) (suc a) h e = fences_at ns ms a (omega arith) e
fences_at (n ∷ ns) (false ∷ ms) zero h e = absurd (false≢true e)
fences_at (n ∷ ns) (false ∷ ms) (suc a) h e = fences_at ns ms a (omega arith) e

abbrev After : Listing → Marks → ℕ → Type 0
After L ms j = (a : ℕ) × (a < length L) × (marked ms a ≡ true) × (rank ms a ≡ j)

fences_only : (L : Listing) (ms : Marks) (j : ℕ) → j < length (fences L ms) → After L ms j
fences_only [] ms j h = absurd (omega arith)
fences_only (n ∷ ns) [] j h = absurd (omega arith)
fences_only (n ∷ ns) (true ∷ ms) zero h = (0, omega arith, refl, refl)
fences_only (n ∷ ns) (true ∷ ms) (suc j) h = let r = fences_only ns ms j (omega arith) in (suc r.0, omega arith, r.2, ap suc r.3)
fences_only (n ∷ ns) (false ∷ ms) j h = let r = fences_only ns ms j h in (suc r.0, omega arith, r.2, r.3)

-- the fence put after a
abbrev pub fence_of : Listing → Marks → ℕ → ℕ
fence_of L ms a = length L + rank ms a

patched_length : (L : Listing) (ms : Marks) → length (patched L ms) ≡ length L + length (fences L ms)
patched_length L ms = simp (length-append, length_kept)

fences_places : (L : Listing) (ms : Marks) → length ms ≤ length L → length (fences L ms) ≡ places ms
fences_places [] [] h = refl
fences_places [] (m ∷ ms) h = absurd (omega arith)
fences_places (n ∷ ns) [] h = refl
fences_places (n ∷ ns) (true ∷ ms) h = ap suc (fences_places ns ms (omega arith))
fences_places (n ∷ ns) (false ∷ ms) h = fences_places ns ms (omega arith)

-- a fence more for each place
pub length_patched : (L : Listing) (ms : Marks) → length ms ≤ length L → length (patched L ms) ≡ length L + places ms
length_patched L ms h = patched_length L ms ∙ ap (λ (k : ℕ). length L + k) (fences_places L ms h)

pub patched_grows : (L : Listing) (ms : Marks) → length L ≤ length (patched L ms)
patched_grows L ms = omega (arith, patched_length L ms)

pub patched_unmarked : (L : Listing) (ms : Marks) (a : ℕ) → a < length L → marked ms a ≡ false → node (patched L ms) a ≡ node L a
patched_unmarked L ms a h e = get_or-append (kept (length L) L ms) (fences L ms) blank a (rw length_kept h) ∙ kept_unmarked (length L) L ms a e

pub patched_marked : (L : Listing) (ms : Marks) (a : ℕ) → a < length L → marked ms a ≡ true → node (patched L ms) a ≡ redirect (node L a) (fence_of L ms a)
patched_marked L ms a h e = get_or-append (kept (length L) L ms) (fences L ms) blank a (rw length_kept h) ∙ kept_marked (length L) L ms a h e

pub patched_fence : (L : Listing) (ms : Marks) (a : ℕ) → a < length L → marked ms a ≡ true → node (patched L ms) (fence_of L ms a) ≡ fence_after (node L a)
patched_fence L ms a h e =
    subst (λ (k : ℕ). node (patched L ms) (k + rank ms a) ≡ fence_after (node L a)) (length_kept (length L) L ms)
    (get_or-append-add (kept (length L) L ms) (fences L ms) (rank ms a) blank ∙ fences_at L ms a h e)

-- kinds and locations of the old nodes stay
pub patched_kind : (L : Listing) (ms : Marks) (a : ℕ) → a < length L → kind_at (patched L ms) a ≡ kind_at L a
patched_kind L ms a h = go (bool? (marked ms a))
  where
    go : (marked ms a ≡ true) ⊎ (marked ms a ≡ false) → kind_at (patched L ms) a ≡ kind_at L a
    go (inl e) = ap (λ (n : Node). n.kind) (patched_marked L ms a h e)
    go (inr e) = ap (λ (n : Node). n.kind) (patched_unmarked L ms a h e)

pub patched_loc : (L : Listing) (ms : Marks) (a : ℕ) → a < length L → loc_at (patched L ms) a ≡ loc_at L a
patched_loc L ms a h = go (bool? (marked ms a))
  where
    go : (marked ms a ≡ true) ⊎ (marked ms a ≡ false) → loc_at (patched L ms) a ≡ loc_at L a
    go (inl e) = ap (λ (n : Node). n.location) (patched_marked L ms a h e)
    go (inr e) = ap (λ (n : Node). n.location) (patched_unmarked L ms a h e)

pub fence_kind : (L : Listing) (ms : Marks) (a : ℕ) → a < length L → marked ms a ≡ true → kind_at (patched L ms) (fence_of L ms a) ≡ FENCE
fence_kind L ms a h e = ap (λ (n : Node). n.kind) (patched_fence L ms a h e)

-- every other number is a fence's
pub patched_new : (L : Listing) (ms : Marks) (x : ℕ) → length L ≤ x → x < length (patched L ms)
    → (a : ℕ) × (a < length L) × (marked ms a ≡ true) × (fence_of L ms a ≡ x)
patched_new L ms x h k =
    let r = fences_only L ms (x - length L) (omega (arith, patched_length L ms)) in
    (r.0, r.1, r.2, omega (arith, r.3))

pub fence_in : (L : Listing) (ms : Marks) (a : ℕ) → a < length L → marked ms a ≡ true → fence_of L ms a < length (patched L ms)
fence_in L ms a h e = omega (arith, patched_length L ms, fences_rank L ms a h e)

-- ── Links of the patched listing ────────────────────────────────────────────
module _ (L : Listing) (ms : Marks) where
  -- each old link is there: from the node, or from the node to its fence and from that on
  pub unmarked_succ : (a b : ℕ) → marked ms a ≡ false → Succ L a b → Succ (patched L ms) a b
  unmarked_succ a b e s = (
    omega (arith, patched_grows L ms, s.0),
    omega (arith, patched_grows L ms, s.1),
    subst (λ (n : Node). Next n b) (sym (patched_unmarked L ms a s.0 e)) s.2,
  )

  pub marked_succ : (a : ℕ) → a < length L → marked ms a ≡ true → Succ (patched L ms) a (fence_of L ms a)
  marked_succ a h e = (
    omega (arith, patched_grows L ms),
    fence_in L ms a h e,
    subst (λ (n : Node). Next n (fence_of L ms a)) (sym (patched_marked L ms a h e)) (inl refl),
  )

  pub fence_succ : (a b : ℕ) → marked ms a ≡ true → Succ L a b → Succ (patched L ms) (fence_of L ms a) b
  fence_succ a b e s = (
    fence_in L ms a s.0 e,
    omega (arith, patched_grows L ms, s.1),
    subst (λ (n : Node). Next n b) (sym (patched_fence L ms a s.0 e)) s.2,
  )

  -- and no other
  module _ (links : Links L) (small : length (patched L ms) ≤ 255) where
    next_target : (a b : ℕ) → a < length L → b < length (patched L ms) → Next (node L a) b → b < length L
    next_target a b h k = elim [ inl e ↦ go (node L a).first e (links a h).0 | inr e ↦ go (node L a).second e (links a h).1 ]
      where
        go : (s : ℕ) → s ≡ b → Target L s → b < length L
        go s e (inl n) = absurd (omega arith)
        go s e (inr m) = omega arith

    pub succ_unmarked : (a b : ℕ) → a < length L → marked ms a ≡ false → Succ (patched L ms) a b → Succ L a b
    succ_unmarked a b h e s = let n = subst (λ (n : Node). Next n b) (patched_unmarked L ms a h e) s.2 in (h, next_target a b h s.1 n, n)

    pub succ_marked : (a b : ℕ) → a < length L → marked ms a ≡ true → Succ (patched L ms) a b → fence_of L ms a ≡ b
    succ_marked a b h e s = go (subst (λ (n : Node). Next n b) (patched_marked L ms a h e) s.2)
      where
        go : Next (redirect (node L a) (fence_of L ms a)) b → fence_of L ms a ≡ b
        go (inl x) = x
        go (inr x) = absurd (omega (arith, s.1, x))

    pub succ_fence : (a b : ℕ) → a < length L → marked ms a ≡ true → Succ (patched L ms) (fence_of L ms a) b → Succ L a b
    succ_fence a b h e s = let n = subst (λ (n : Node). Next n b) (patched_fence L ms a h e) s.2 in (h, next_target a b h s.1 n, n)
