-- A routine with a node has one entry, and whether it reaches a node is decided by computation.
use mathlib.Core.Path.{◌≡◌, refl, sym, subst}
use mathlib.Core.Logic.{◌≢◌, ◌↔◌, inl, inr}
use mathlib.Core.List.{List, [], ◌∷◌, ◌++◌}
use mathlib.Core.Bool.{Bool, true, false, cond, ◌&&◌, ◌||◌}
use Prim.Native.Nat.{ℕ, zero, suc, ◌<◌}
use native.Mathlib.Omega.{arith}
use native.Mathlib.Decide.{dec_lt}
use lib.Dec.{T, eqb, ltb}
use lib.ListN.{length}
use Rattle.listing.specs.Node.{Node, Listing, node}
use Rattle.order.specs.Walks.{Succ, Walk}
use Rattle.order.specs.Entered.{EntryOf, Reached, Entered}
use Rattle.order.proofs.Lists.{row_join}
use Rattle.order.proofs.Tests.{eqb_checked, ltb_checked, both_checked, one_checked, decided}
use Rattle.order.proofs.Decide.{walk?, walk_sound, walk_complete, any?, any_all}

-- ── The entry ───────────────────────────────────────────────────────────────
-- the number of the lowest node of routine r
abbrev pub lowest_of : Listing → ℕ → ℕ
lowest_of [] r = 0
lowest_of (n ∷ ns) r = cond (eqb n.routine r) 0 (suc (lowest_of ns r))

-- a node in front that is of another routine moves the entry by one
entry_past : (n : Node) (ns : Listing) (r e : ℕ) → n.routine ≢ r → EntryOf ns r e → EntryOf (n ∷ ns) r (suc e)
entry_past n ns r e other h = record { within = omega (arith, h.within); own = h.own; lowest = lowest }
  where
    lowest : (x : ℕ) → x < suc e → (node (n ∷ ns) x).routine ≢ r
    lowest zero l = other
    lowest (suc x) l = h.lowest x (omega arith)

pub first_entry : (L : Listing) (r a : ℕ) → a < length L → (node L a).routine ≡ r → EntryOf L r (lowest_of L r)
first_entry [] r a l e = absurd (omega arith)
first_entry (n ∷ ns) r a l e = go (eqb n.routine r) (eqb_checked n.routine r) a l e (λ x k f. first_entry ns r x k f)
  where
    go : (b : Bool) → T b ↔ (n.routine ≡ r) → (x : ℕ) → x < length (n ∷ ns) → (node (n ∷ ns) x).routine ≡ r
        → ((y : ℕ) → y < length ns → (node ns y).routine ≡ r → EntryOf ns r (lowest_of ns r))
        → EntryOf (n ∷ ns) r (cond b 0 (suc (lowest_of ns r)))
    go true t x k f rest = record { within = omega arith; own = t.0 tt; lowest = λ y h. absurd (omega arith) }
    go false t zero k f rest = absurd (t.1 f)
    go false t (suc x) k f rest = entry_past n ns r (lowest_of ns r) t.1 (rest x (omega arith) f)

-- THE ROUTINE OF A NODE HAS AN ENTRY
pub entry_of : (L : Listing) (a : ℕ) → a < length L → (e : ℕ) × EntryOf L (node L a).routine e
entry_of L a h = (lowest_of L (node L a).routine, first_entry L (node L a).routine a h refl)

-- AND NO OTHER
pub entry_once : {L : Listing} {r d e : ℕ} → EntryOf L r d → EntryOf L r e → d ≡ e
entry_once {L} {r} {d} {e} h k = go (dec_lt d e) (dec_lt e d)
  where
    go : Dec (d < e) → Dec (e < d) → d ≡ e
    go (yes l) m = absurd (k.lowest d l h.own)
    go (no l) (yes m) = absurd (h.lowest e m k.own)
    go (no l) (no m) = omega arith

-- ── What it reaches ─────────────────────────────────────────────────────────
module _ (L : Listing) where
  pub reached_join : {a b c : ℕ} → Reached L a b → Reached L b c → Reached L a c
  reached_join {c = c} (inl e) s = subst (λ (x : ℕ). Reached L x c) (sym e) s
  reached_join {a} (inr w) (inl e) = subst (Reached L a) e (inr w)
  reached_join {a} {b} {c} (inr w) (inr v) = inr (w.0 ++ (b ∷ v.0), row_join (Succ L) a w.0 b v.0 c w.1 v.1)

  walk_end : (a : ℕ) (xs : List ℕ) (b : ℕ) → Walk L a xs b → b < length L
  walk_end a [] b w = w.1
  walk_end a (x ∷ xs) b w = walk_end x xs b w.1

  -- only nodes are reached
  entered_in : (a : ℕ) → Entered L a → a < length L
  entered_in a (e, entry, inl same) = omega (arith, entry.within, same)
  entered_in a (e, entry, inr w) = walk_end e w.0 a w.1

  -- A LINK THAT STAYS IN ITS ROUTINE LEADS FROM AN ENTERED NODE TO AN ENTERED ONE
  pub entered_on : (x y : ℕ) → (node L y).routine ≡ (node L x).routine → Entered L x → Succ L x y → Entered L y
  entered_on x y own h s = (h.0, subst (λ (r : ℕ). EntryOf L r h.0) (sym own) h.1, reached_join h.2 (inr ([], s)))

-- ── The test ────────────────────────────────────────────────────────────────
-- e is a, or a walk is found
abbrev pub reached? : Listing → ℕ → ℕ → Bool
reached? L e a = eqb e a || walk? L any? e a

-- a is a node, and the first node of its routine reaches it
abbrev pub from_entry? : Listing → ℕ → Bool
from_entry? L a = ltb a (length L) && reached? L (lowest_of L (node L a).routine) a

module _ (L : Listing) where
  reached_checked : (e a : ℕ) → T (reached? L e a) ↔ Reached L e a
  reached_checked e a =
      one_checked (eqb e a) (walk? L any? e a) (eqb_checked e a)
      (λ t. let w = walk_sound L any? e a t in (w.0, w.1), λ w. walk_complete L any? e a w.0 w.1 (any_all w.0))

  pub entered_checked : (a : ℕ) → T (from_entry? L a) ↔ Entered L a
  entered_checked a = (λ t. let h = parts.0 t in (first, first_entry L r a h.0 refl, h.1), λ h. parts.1 (entered_in L a h, from_first h))
    where
      r : ℕ
      r = (node L a).routine

      first : ℕ
      first = lowest_of L r

      parts : T (from_entry? L a) ↔ ((a < length L) × Reached L first a)
      parts = both_checked (ltb a (length L)) (reached? L first a) (ltb_checked a (length L)) (reached_checked first a)

      -- the entry is the first node
      from_first : Entered L a → Reached L first a
      from_first h = subst (λ (e : ℕ). Reached L e a) (entry_once h.1 (first_entry L r a (entered_in L a h) refl)) h.2

-- WHETHER A NODE IS ENTERED IS DECIDED
unfoldable pub entered? : (L : Listing) (a : ℕ) → Dec (Entered L a)
entered? L a = decided (from_entry? L a) (entered_checked L a)
