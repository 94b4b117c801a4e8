-- The patched listing, number by number: it is the old one with exactly the fences asked for, and no other listing is.
use mathlib.Core.Path.{◌≡◌, refl, sym, ap, ◌∙◌, subst}
use mathlib.Core.Logic.{◌⊎◌, inl, inr}
use mathlib.Core.Bool.{true, false, false≢true}
use mathlib.Core.List.{[], ◌∷◌}
use Prim.Native.Nat.{ℕ, zero, suc, ◌+◌, ◌≤◌, ◌<◌}
use native.Mathlib.Omega.{arith}
use native.Mathlib.Decide.{dec_lt}
use lib.ListN.{length, take}
use lib.Seq.{ext_get_or}
use Rattle.listing.specs.Node.{Node, blank, Listing, node}
use Rattle.listing.proofs.Bools.{bool?}
use Rattle.order.specs.Patched.{Marks, marked, places, patched}
use Rattle.order.proofs.Patch.{rank, length_patched, patched_unmarked, patched_marked, patched_fence, patched_kind, patched_loc, patched_new}
use Rattle.fencing.specs.Written.{fence_number, FenceAfter, Fenced}
use Rattle.fencing.proofs.PatchedValid.{patched_routine}

rank_before : (ms : Marks) (a : ℕ) → rank ms a ≡ places (take a ms)
rank_before [] zero = refl
rank_before [] (suc a) = refl
rank_before (m ∷ ms) zero = refl
rank_before (true ∷ ms) (suc a) = ap suc (rank_before ms a)
rank_before (false ∷ ms) (suc a) = rank_before ms a

fewer_before : (ms : Marks) (a b : ℕ) → a < b → marked ms a ≡ true → places (take a ms) < places (take b ms)
fewer_before [] a b h e = absurd (false≢true e)
fewer_before (m ∷ ms) a zero h e = absurd (omega arith)
fewer_before (true ∷ ms) zero (suc b) h e = omega arith
fewer_before (false ∷ ms) zero (suc b) h e = absurd (false≢true e)
fewer_before (true ∷ ms) (suc a) (suc b) h e = omega (arith, fewer_before ms a b (omega arith) e)
fewer_before (false ∷ ms) (suc a) (suc b) h e = fewer_before ms a b (omega arith) e

-- "in the order of the nodes they follow"
pub fences_ordered : (L : Listing) (ms : Marks) (a b : ℕ) → a < b → marked ms a ≡ true → fence_number L ms a < fence_number L ms b
fences_ordered L ms a b h e = omega (arith, fewer_before ms a b h e)

module _ (L : Listing) (ms : Marks) (fit : length ms ≤ length L) where
  -- THE PATCHED LISTING IS THE OLD ONE WITH EXACTLY THE FENCES ASKED FOR
  pub patched_fenced : Fenced L ms (patched L ms)
  patched_fenced =
      record {
        count = length_patched L ms fit;
        keeps = λ a h. record { routine = patched_routine L ms a h; kind = patched_kind L ms a h; location = patched_loc L ms a h };
        unmarked = λ a h e. (ap (λ (n : Node). n.first) (patched_unmarked L ms a h e), ap (λ (n : Node). n.second) (patched_unmarked L ms a h e));
        leads = λ a h e. (ap (λ (n : Node). n.first) (patched_marked L ms a h e) ∙ at a, ap (λ (n : Node). n.second) (patched_marked L ms a h e));
        fence = λ a h e. subst (λ (k : ℕ). FenceAfter (node L a) (node (patched L ms) k)) (at a) (fence_at a h e);
        only = λ x h k. let r = patched_new L ms x h k in (r.0, r.1, r.2, sym (at r.0) ∙ r.3);
      }
    where
      at : (a : ℕ) → length L + rank ms a ≡ fence_number L ms a
      at a = ap (λ (k : ℕ). length L + k) (rank_before ms a)

      fence_at : (a : ℕ) → a < length L → marked ms a ≡ true → FenceAfter (node L a) (node (patched L ms) (length L + rank ms a))
      fence_at a h e =
          subst (FenceAfter (node L a)) (sym (patched_fence L ms a h e))
          (record { routine = refl; kind = refl; location = refl; first = refl; second = refl })

same_node : {n m : Node} → n.routine ≡ m.routine → n.kind ≡ m.kind → n.location ≡ m.location → n.first ≡ m.first → n.second ≡ m.second → n ≡ m
same_node r k l x y = λ i. record { routine = r i; kind = k i; location = l i; first = x i; second = y i }

module _ {L : Listing} {ms : Marks} {M P : Listing} (m : Fenced L ms M) (p : Fenced L ms P) where
  same_kept : (a : ℕ) → a < length L → (node M a).first ≡ (node P a).first → (node M a).second ≡ (node P a).second → node M a ≡ node P a
  same_kept a h x y =
      let j = m.keeps a h in
      let k = p.keeps a h in
      same_node (j.routine ∙ sym k.routine) (j.kind ∙ sym k.kind) (j.location ∙ sym k.location) x y

  same_old : (a : ℕ) → a < length L → (marked ms a ≡ true) ⊎ (marked ms a ≡ false) → node M a ≡ node P a
  same_old a h (inl e) = same_kept a h ((m.leads a h e).0 ∙ sym (p.leads a h e).0) ((m.leads a h e).1 ∙ sym (p.leads a h e).1)
  same_old a h (inr e) = same_kept a h ((m.unmarked a h e).0 ∙ sym (p.unmarked a h e).0) ((m.unmarked a h e).1 ∙ sym (p.unmarked a h e).1)

  same_fence : (a : ℕ) → a < length L → marked ms a ≡ true → node M (fence_number L ms a) ≡ node P (fence_number L ms a)
  same_fence a h e =
      let j = m.fence a h e in
      let k = p.fence a h e in
      same_node (j.routine ∙ sym k.routine) (j.kind ∙ sym k.kind) (j.location ∙ sym k.location)
      (j.first ∙ sym k.first) (j.second ∙ sym k.second)

  -- ANY TWO LISTINGS THAT ARE SO FENCED ARE EQUAL
  pub fenced_unique : M ≡ P
  fenced_unique = ext_get_or blank M P (m.count ∙ sym p.count) (λ x h. go x h (dec_lt x (length L)))
    where
      go : (x : ℕ) → x < length M → Dec (x < length L) → node M x ≡ node P x
      go x h (yes k) = same_old x k (bool? (marked ms x))
      go x h (no k) =
          let r = m.only x (omega arith) h in
          subst (λ (y : ℕ). node M y ≡ node P y) r.3 (same_fence r.0 r.1 r.2)
