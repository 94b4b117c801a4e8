-- A patched listing is valid where the old one is.
use mathlib.Core.Path.{◌≡◌, refl, sym, ap, ◌∙◌, subst}
use mathlib.Core.Logic.{◌⊎◌, inl, inr}
use mathlib.Core.Bool.{Bool, true, false, cond}
use Prim.Native.Nat.{ℕ, ◌<◌}
use native.Mathlib.Omega.{arith}
use native.Mathlib.Decide.{dec_lt}
use lib.Dec.{eqb}
use lib.ListN.{length}
use Rattle.listing.specs.Kinds.{FENCE, KINDS, kinds_of}
use Rattle.listing.specs.Node.{Node, Listing, node}
use Rattle.listing.specs.Valid.{Goes, NodeOk, Valid}
use Rattle.listing.proofs.Bools.{bool?}
use Rattle.order.specs.Patched.{Marks, marked, redirect, fence_after, patched}
use Rattle.order.proofs.Patch.{Target, Links, fence_of, fence_in, patched_unmarked, patched_marked, patched_fence, patched_new, patched_grows}

-- the successors of a valid listing's nodes are none, or nodes
pub valid_links : (v f : ℕ) (L : Listing) → Valid v f L → Links L
valid_links v f L ok a h = (go (node L a).first (ok a h).first, go (node L a).second (ok a h).second)
  where
    go : (s : ℕ) → Goes L (node L a) s → Target L s
    go s (inl e) = inl e
    go s (inr g) = inr g.0

-- every version admits a full fence
fence_below : (v : ℕ) → FENCE < kinds_of v
fence_below v = of (eqb v 1)
  where
    of : (b : Bool) → FENCE < cond b 5 KINDS
    of true = omega arith
    of false = omega arith

module _ (L : Listing) (ms : Marks) where
  -- the old nodes keep their routines
  pub patched_routine : (a : ℕ) → a < length L → (node (patched L ms) a).routine ≡ (node L a).routine
  patched_routine a h = go (bool? (marked ms a))
    where
      go : (marked ms a ≡ true) ⊎ (marked ms a ≡ false) → (node (patched L ms) a).routine ≡ (node L a).routine
      go (inl e) = ap (λ (n : Node). n.routine) (patched_marked L ms a h e)
      go (inr e) = ap (λ (n : Node). n.routine) (patched_unmarked L ms a h e)

  goes_patched : (n : Node) (s : ℕ) → Goes L n s → Goes (patched L ms) n s
  goes_patched n s (inl e) = inl e
  goes_patched n s (inr g) = inr (omega (arith, g.0, patched_grows L ms), patched_routine s g.0 ∙ g.1)

  module _ (v f : ℕ) (valid : Valid v f L) where
    same_ok : (a : ℕ) → a < length L → NodeOk v f (patched L ms) (node L a)
    same_ok a h =
        let o = valid a h in
        record {
          routine = o.routine;
          kind = o.kind;
          location = o.location;
          first = goes_patched (node L a) (node L a).first o.first;
          second = goes_patched (node L a) (node L a).second o.second;
          order = o.order;
        }

    redirect_ok : (a : ℕ) → a < length L → marked ms a ≡ true → NodeOk v f (patched L ms) (redirect (node L a) (fence_of L ms a))
    redirect_ok a h e =
        let o = valid a h in
        record {
          routine = o.routine;
          kind = o.kind;
          location = o.location;
          first = inr (fence_in L ms a h e, ap (λ (n : Node). n.routine) (patched_fence L ms a h e));
          second = inl refl;
          order = inl refl;
        }

    fence_ok : (a : ℕ) → a < length L → NodeOk v f (patched L ms) (fence_after (node L a))
    fence_ok a h =
        let o = same_ok a h in
        record { routine = o.routine; kind = fence_below v; location = λ k. refl; first = o.first; second = o.second; order = o.order }

    -- A PATCHED LISTING IS VALID
    pub patched_valid : Valid v f (patched L ms)
    patched_valid x h = go (dec_lt x (length L))
      where
        old : x < length L → (marked ms x ≡ true) ⊎ (marked ms x ≡ false) → NodeOk v f (patched L ms) (node (patched L ms) x)
        old k (inl e) = subst (NodeOk v f (patched L ms)) (sym (patched_marked L ms x k e)) (redirect_ok x k e)
        old k (inr e) = subst (NodeOk v f (patched L ms)) (sym (patched_unmarked L ms x k e)) (same_ok x k)

        go : Dec (x < length L) → NodeOk v f (patched L ms) (node (patched L ms) x)
        go (yes k) = old k (bool? (marked ms x))
        go (no n) =
            let r = patched_new L ms x (omega arith) h in
            subst (λ (y : ℕ). NodeOk v f (patched L ms) (node (patched L ms) y)) r.3
            (subst (NodeOk v f (patched L ms)) (sym (patched_fence L ms r.0 r.1 r.2)) (fence_ok r.0 r.1))
