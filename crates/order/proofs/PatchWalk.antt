-- The patched listing is the old one, number by number, and a walk is open there if it passes no mark.
use mathlib.Core.Path.{◌≡◌, refl, sym, ap, ◌∙◌, subst}
use mathlib.Core.Logic.{◌⊎◌, inl, inr}
use mathlib.Core.List.{List, [], ◌∷◌}
use mathlib.Core.Bool.{true, false, false≢true}
use Prim.Native.Nat.{ℕ, ◌≤◌, ◌<◌}
use native.Mathlib.Decide.{dec_lt}
use native.Mathlib.Omega.{arith}
use lib.Dec.{T}
use lib.ListN.{length}
use Rattle.listing.specs.Node.{Listing}
use Rattle.order.specs.Walks.{kind_at, is_access, Access, Succ, Walk}
use Rattle.order.specs.Patched.{Marks, marked, patched}
use Rattle.order.specs.With.{Unmarked}
use Rattle.listing.proofs.Bools.{bool?}
use Rattle.order.proofs.Laws.{access_in}
use Rattle.order.proofs.Inside.{Inside, inside_none, inside_kept, inside_fence, inside_open}
use Rattle.order.proofs.Renaming.{Renamed}
use Rattle.order.proofs.Patch.{Links, fence_of, patched_kind, patched_loc, patched_new, fence_kind}
use Rattle.order.proofs.Patch.{unmarked_succ, marked_succ, fence_succ, succ_unmarked, succ_marked, succ_fence}

module _ (L : Listing) (ms : Marks) where
  -- a walk of the patched listing with ys inside goes along an old walk with xs inside
  record Along (a b : ℕ) (xs ys : List ℕ) : Type 0 where
    old : Walk L a xs b
    new : Walk (patched L ms) a ys b
    inside : Inside L (patched L ms) xs ys (Unmarked ms a xs)

  -- ── One link, and one link more in front ────────────────────────────────────
  along_link : (a b : ℕ) → Succ L a b → marked ms a ≡ false → Along a b [] []
  along_link a b s e = record {
    old = s;
    new = unmarked_succ L ms a b e s;
    inside = inside_none L (patched L ms) (Unmarked ms a []) (e, tt);
  }

  along_fence : (a b : ℕ) → Succ L a b → marked ms a ≡ true → Along a b [] (fence_of L ms a ∷ [])
  along_fence a b s e = record {
    old = s;
    new = (marked_succ L ms a s.0 e, fence_succ L ms a b e s);
    inside =
        inside_fence (inside_none L (patched L ms) (Unit {0}) tt) (fence_of L ms a) (fence_kind L ms a s.0 e)
        (Unmarked ms a []) (λ o. false≢true (sym o.0 ∙ e));
  }

  module _ (a c b : ℕ) (xs ys : List ℕ) (s : Succ L a c) (w : Along c b xs ys) where
    inside_both : Inside L (patched L ms) (c ∷ xs) (c ∷ ys) (Unmarked ms c xs)
    inside_both = inside_kept w.inside c c (patched_kind L ms c s.1)

    along_past : marked ms a ≡ false → Along a b (c ∷ xs) (c ∷ ys)
    along_past e = record {
      old = (s, w.old);
      new = (unmarked_succ L ms a c e s, w.new);
      inside = inside_open inside_both (Unmarked ms a (c ∷ xs)) (λ o. (e, o), λ o. o.1);
    }

    along_through : marked ms a ≡ true → Along a b (c ∷ xs) (fence_of L ms a ∷ c ∷ ys)
    along_through e = record {
      old = (s, w.old);
      new = (marked_succ L ms a s.0 e, (fence_succ L ms a c e s, w.new));
      inside = inside_fence inside_both (fence_of L ms a) (fence_kind L ms a s.0 e) (Unmarked ms a (c ∷ xs)) (λ o. false≢true (sym o.0 ∙ e));
    }

  -- ── Every walk, both ways ───────────────────────────────────────────────────
  along_old : (xs : List ℕ) (a b : ℕ) → Walk L a xs b → (ys : List ℕ) × Along a b xs ys
  along_old [] a b w = go (bool? (marked ms a))
    where
      go : (marked ms a ≡ true) ⊎ (marked ms a ≡ false) → (ys : List ℕ) × Along a b [] ys
      go (inl e) = (fence_of L ms a ∷ [], along_fence a b w e)
      go (inr e) = ([], along_link a b w e)
  along_old (c ∷ xs) a b w = go (bool? (marked ms a)) (along_old xs c b w.1)
    where
      go : (marked ms a ≡ true) ⊎ (marked ms a ≡ false) → (ys : List ℕ) × Along c b xs ys → (ys : List ℕ) × Along a b (c ∷ xs) ys
      go (inl e) v = (fence_of L ms a ∷ c ∷ v.0, along_through a c b xs v.0 w.0 v.1 e)
      go (inr e) v = (c ∷ v.0, along_past a c b xs v.0 w.0 v.1 e)

  -- every old walk is there, with the fences that it passes
  pub patched_walk : (a : ℕ) (xs : List ℕ) (b : ℕ) → Walk L a xs b → (ys : List ℕ) × Walk (patched L ms) a ys b
  patched_walk a xs b w = let v = along_old xs a b w in (v.0, v.1.new)

  old_access : (a : ℕ) → Access (patched L ms) a → a < length L
  old_access a t = go (dec_lt a (length L))
    where
      go : Dec (a < length L) → a < length L
      go (yes h) = h
      go (no n) =
          let r = patched_new L ms a (omega arith) (access_in (patched L ms) a t) in
          absurd (subst (λ (k : ℕ). T (is_access k)) (ap (kind_at (patched L ms)) (sym r.3) ∙ fence_kind L ms r.0 r.1 r.2) t)

  module _ (links : Links L) (small : length (patched L ms) ≤ 255) where
    abbrev Follows : ℕ → List ℕ → ℕ → Type 0
    Follows a ys b = (xs : List ℕ) × Along a b xs ys

    -- out of a marked node there is only its fence, and out of that what was out of the node
    module _ (a c : ℕ) (h : a < length L) (e : marked ms a ≡ true) (s : Succ (patched L ms) a c) where
      its_fence : fence_of L ms a ≡ c
      its_fence = succ_marked L ms links small a c h e s

      out : (d : ℕ) → Succ (patched L ms) c d → Succ L a d
      out d t = succ_fence L ms links small a d h e (subst (λ (v : ℕ). Succ (patched L ms) v d) (sym its_fence) t)

    along_new : (ys : List ℕ) (a b : ℕ) → a < length L → b < length L → Walk (patched L ms) a ys b → Follows a ys b
    along_new [] a b h k w = go (bool? (marked ms a))
      where
        go : (marked ms a ≡ true) ⊎ (marked ms a ≡ false) → Follows a [] b
        go (inl e) = absurd (omega (arith, its_fence a b h e w))
        go (inr e) = ([], along_link a b (succ_unmarked L ms links small a b h e w) e)
    along_new (c ∷ []) a b h k w = go (bool? (marked ms a)) (λ i. along_new [] c b i k w.1)
      where
        go : (marked ms a ≡ true) ⊎ (marked ms a ≡ false) → (c < length L → Follows c [] b) → Follows a (c ∷ []) b
        go (inl e) f = ([], subst (λ (v : ℕ). Along a b [] (v ∷ [])) (its_fence a c h e w.0) (along_fence a b (out a c h e w.0 b w.1) e))
        go (inr e) f =
            let s = succ_unmarked L ms links small a c h e w.0 in
            let v = f s.1 in
            (c ∷ v.0, along_past a c b v.0 [] s v.1 e)
    along_new (c ∷ d ∷ ys) a b h k w = go (bool? (marked ms a)) (λ i. along_new (d ∷ ys) c b i k w.1) (λ i. along_new ys d b i k w.1.1)
      where
        go : (marked ms a ≡ true) ⊎ (marked ms a ≡ false) → (c < length L → Follows c (d ∷ ys) b) → (d < length L → Follows d ys b)
            → Follows a (c ∷ d ∷ ys) b
        go (inl e) f g =
            let s = out a c h e w.0 d w.1.0 in
            let v = g s.1 in
            (d ∷ v.0, subst (λ (x : ℕ). Along a b (d ∷ v.0) (x ∷ d ∷ ys)) (its_fence a c h e w.0) (along_through a d b v.0 ys s v.1 e))
        go (inr e) f g =
            let s = succ_unmarked L ms links small a c h e w.0 in
            let v = f s.1 in
            (c ∷ v.0, along_past a c b v.0 (d ∷ ys) s v.1 e)

    -- THE PATCHED LISTING IS THE OLD ONE, SHUT AT THE MARKS
    pub patched_renamed : Renamed (λ a. a) (Unmarked ms) L (patched L ms)
    patched_renamed = record {
      kind = λ a t. patched_kind L ms a (access_in L a t);
      location = λ a t. patched_loc L ms a (access_in L a t);
      different = λ a b s t e. e;
      hit = λ a t. (a, refl, subst (λ (k : ℕ). T (is_access k)) (patched_kind L ms a (old_access a t)) t);
      there = λ a b s t xs w. let v = along_old xs a b w in (v.0, v.1.new, v.1.inside);
      back = λ a b s t ys w. let v = along_new ys a b (access_in L a s) (access_in L b t) w in (v.0, v.1.old, v.1.inside);
    }
