-- In a patched listing the entries of the routines reach every node, where they do so in the old one.
use mathlib.Core.Path.{◌≡◌, sym, ap, ◌∙◌, subst}
use mathlib.Core.Logic.{inl, inr}
use mathlib.Core.Bool.{true}
use Prim.Native.Nat.{ℕ, ◌<◌}
use native.Mathlib.Omega.{arith}
use native.Mathlib.Decide.{dec_lt}
use lib.ListN.{length}
use Rattle.listing.specs.Node.{Node, Listing, node}
use Rattle.order.specs.Entered.{EntryOf, Reached, Entered, AllEntered}
use Rattle.order.specs.Patched.{Marks, marked, patched}
use Rattle.order.proofs.Entering.{entered_on}
use Rattle.order.proofs.Patch.{fence_of, patched_grows, patched_fence, patched_new, marked_succ}
use Rattle.order.proofs.PatchWalk.{patched_walk}
use Rattle.fencing.proofs.PatchedValid.{patched_routine}

module _ (L : Listing) (ms : Marks) where
  -- fences are numbered after the old nodes, so that an entry stays the lowest
  entry_stays : (r e : ℕ) → EntryOf L r e → EntryOf (patched L ms) r e
  entry_stays r e h =
      record {
        within = omega (arith, h.within, patched_grows L ms);
        own = patched_routine L ms e h.within ∙ h.own;
        lowest = λ x l same. h.lowest x l (sym (patched_routine L ms x (omega (arith, h.within))) ∙ same);
      }

  reached_stays : (e a : ℕ) → Reached L e a → Reached (patched L ms) e a
  reached_stays e a (inl same) = inl same
  reached_stays e a (inr w) = inr (patched_walk L ms e w.0 a w.1)

  old_entered : (a : ℕ) → a < length L → Entered L a → Entered (patched L ms) a
  old_entered a l h = (
    h.0,
    subst (λ (r : ℕ). EntryOf (patched L ms) r h.0) (sym (patched_routine L ms a l)) (entry_stays (node L a).routine h.0 h.1),
    reached_stays h.0 a h.2,
  )

  -- a fence is of the routine of the node that it follows, and that leads to it
  fence_entered : (a : ℕ) → a < length L → marked ms a ≡ true → Entered (patched L ms) a → Entered (patched L ms) (fence_of L ms a)
  fence_entered a l m h =
      let own = ap (λ (n : Node). n.routine) (patched_fence L ms a l m) ∙ sym (patched_routine L ms a l) in
      entered_on (patched L ms) a (fence_of L ms a) own h (marked_succ L ms a l m)

  -- ENTRIES REACH EVERY NODE OF THE PATCHED LISTING
  pub patched_entered : AllEntered L → AllEntered (patched L ms)
  patched_entered all x h = go (dec_lt x (length L))
    where
      go : Dec (x < length L) → Entered (patched L ms) x
      go (yes l) = old_entered x l (all x l)
      go (no n) =
          let f = patched_new L ms x (omega arith) h in
          subst (Entered (patched L ms)) f.3 (fence_entered f.0 f.1 f.2 (old_entered f.0 f.1 (all f.0 f.1)))
