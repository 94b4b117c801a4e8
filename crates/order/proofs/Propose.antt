-- The proposed map: there is one at most, and it is accepted.
use mathlib.Core.Path.{◌≡◌, sym, ◌∙◌}
use mathlib.Core.Logic.{◌⊎◌, inl, inr}
use mathlib.Core.Bool.{true, false}
use Prim.Native.Nat.{ℕ, ◌≤◌}
use lib.ListN.{length}
use lib.Seq.{ext_get_or}
use Rattle.listing.specs.Node.{Listing}
use Rattle.order.specs.Verdict.{Robust}
use Rattle.order.specs.Patched.{Marks, marked, patched}
use Rattle.order.specs.Proposed.{Proposed}
use Rattle.listing.proofs.Bools.{bool?}
use Rattle.order.proofs.Patch.{Links}
use Rattle.order.proofs.PatchFails.{accepted}

pub proposed_unique : (q : ℕ) (L : Listing) (ms ns : Marks) → Proposed q L ms → Proposed q L ns → ms ≡ ns
proposed_unique q L ms ns h k = ext_get_or false ms ns (h.size ∙ sym k.size) (λ a l. at a (bool? (marked ms a)) (bool? (marked ns a)))
  where
    at : (a : ℕ) → (marked ms a ≡ true) ⊎ (marked ms a ≡ false) → (marked ns a ≡ true) ⊎ (marked ns a ≡ false) → marked ms a ≡ marked ns a
    at a (inl e) d = let f = h.spares a e in e ∙ sym (k.serves a f.0 f.1)
    at a (inr e) (inl d) = let f = k.spares a d in h.serves a f.0 f.1 ∙ sym d
    at a (inr e) (inr d) = e ∙ sym d

-- THE PROPOSAL IS ACCEPTED
pub proposed_accepted : (q : ℕ) (L : Listing) (ms : Marks) → Links L → length (patched L ms) ≤ 255 → Proposed q L ms → Robust q (patched L ms)
proposed_accepted q L ms links small h = accepted L ms links small q h.serves
