-- The map of the nodes named: its marks are they, and it has N bytes exactly if the listing has them all.
use mathlib.Core.Path.{◌≡◌, refl, sym, ap, ◌∙◌}
use mathlib.Core.Logic.{◌↔◌}
use mathlib.Core.Bool.{Bool, true, false}
use mathlib.Core.List.{List, [], ◌∷◌}
use Prim.Native.Nat.{ℕ, zero, suc, ◌+◌, ◌≤◌, ◌<◌}
use native.Mathlib.Decide.{dec_lt}
use native.Mathlib.Omega.{arith}
use borrow.Author.Tests.{eq-eqb, ne_eqb, eqb-true, not-false}
use lib.ListN.{length}
use lib.Dec.{ltb}
use Rattle.listing.specs.Bytes.{count_n}
use Rattle.listing.specs.Rules.{passed, refused, first_of}
use Rattle.listing.proofs.Table.{row_passes, none_applies}
use Rattle.order.specs.Rows.{All}
use Rattle.order.specs.Patched.{marked}
use Rattle.fencing.specs.Marks.{is_mark, marks_of}
use Rattle.fencing.proofs.Marks.{marks_at}
use Rattle.patch.specs.Patching.{map_byte, byte_rules, map_rules}
use Rattle.acceptance.specs.Accept.{named, map_length, drawn, map_of}
use Rattle.acceptance.proofs.Drawing.{reached, not_reached, drawn_length, drawn_at}

-- ── The marks ───────────────────────────────────────────────────────────────
is_marked : (b : Bool) → is_mark (map_byte b) ≡ b
is_marked true = refl
is_marked false = refl

-- A NODE IS MARKED EXACTLY IF IT IS NAMED
pub marked_named : (s ks : List ℕ) (i : ℕ) → i < length (map_of s ks) → marked (marks_of (map_of s ks)) i ≡ named ks i
marked_named s ks i h =
    let n = map_length (count_n s) ks in
    let from : 0 + i ≡ i = omega arith in
    marks_at (map_of s ks) i
    ∙ ap is_mark (drawn_at ks 0 n i (omega (arith, drawn_length ks 0 n)))
    ∙ is_marked (named ks (0 + i))
    ∙ ap (named ks) from

-- ── The length ──────────────────────────────────────────────────────────────
-- made to reach a node, it is no shorter and reaches it
reaches : (n k : ℕ) → (n ≤ map_length n (k ∷ [])) × (k < map_length n (k ∷ []))
reaches n k = of (dec_lt k n)
  where
    of : Dec (k < n) → (n ≤ map_length n (k ∷ [])) × (k < map_length n (k ∷ []))
    of (yes h) = (omega (arith, reached n k h), omega (arith, reached n k h))
    of (no h) =
        let e = not_reached n k (omega arith) in
        (omega (arith, e), omega (arith, e))

grows : (n : ℕ) (ks : List ℕ) → n ≤ map_length n ks
grows n [] = omega arith
grows n (k ∷ ks) = omega (arith, (reaches n k).0, grows (map_length n (k ∷ [])) ks)

stays : (n : ℕ) (ks : List ℕ) → All (λ k. k < n) ks → map_length n ks ≡ n
stays n [] h = refl
stays n (k ∷ ks) h = ap (λ (m : ℕ). map_length m ks) (sym (reached n k h.0)) ∙ stays n ks h.1

stayed : (n : ℕ) (ks : List ℕ) → map_length n ks ≡ n → All (λ k. k < n) ks
stayed n [] e = tt
stayed n (k ∷ ks) e =
    let m = map_length n (k ∷ []) in
    let same : m ≡ n = omega (arith, (reaches n k).0, grows m ks, e) in
    (omega (arith, (reaches n k).1, same), stayed n ks (ap (λ (x : ℕ). map_length x ks) (sym same) ∙ e))

module _ (s ks : List ℕ) where
  -- every node named is one of the listing's
  abbrev pub Listed : Type 0
  Listed = All (λ k. k < count_n s) ks

  -- A MAP OF N BYTES EXACTLY IF THE LISTING HAS EVERY NODE NAMED
  pub listed_exactly : (length (map_of s ks) ≡ count_n s) ↔ Listed
  listed_exactly =
      let n = map_length (count_n s) ks in
      let size = drawn_length ks 0 n in
      (λ e. stayed (count_n s) ks (sym size ∙ e), λ h. size ∙ stays (count_n s) ks h)

-- ── Rules 13 and 14 ─────────────────────────────────────────────────────────
no_other_byte : (b : Bool) → ltb 1 (map_byte b) ≡ false
no_other_byte true = refl
no_other_byte false = refl

bytes_pass : (ks : List ℕ) (i j n : ℕ) → first_of (byte_rules j (drawn ks i n)) ≡ passed
bytes_pass ks i j zero = refl
bytes_pass ks i j (suc n) =
    row_passes 14 j (first_of (byte_rules (suc j) (drawn ks (suc i) n))) (no_other_byte (named ks i)) ∙ bytes_pass ks (suc i) (suc j) n

module _ (s ks : List ℕ) where
  passes : Listed s ks → first_of (map_rules s (map_of s ks)) ≡ passed
  unfolding map_rules
  passes h = simp (eq-eqb (length (map_of s ks)) (count_n s) ((listed_exactly s ks).1 h)) (bytes_pass ks 0 0 (map_length (count_n s) ks))

  refuses : (Listed s ks → ⊥) → first_of (map_rules s (map_of s ks)) ≡ refused 13 0
  unfolding map_rules
  refuses h = simp (ne_eqb (length (map_of s ks)) (count_n s) (λ e. h ((listed_exactly s ks).0 e)))

  passed_listed : first_of (map_rules s (map_of s ks)) ≡ passed → Listed s ks
  unfolding map_rules
  passed_listed e = (listed_exactly s ks).0 (eqb-true _ _ (not-false _ (none_applies (map_rules s (map_of s ks)) e).0))

  passed_refused : first_of (map_rules s (map_of s ks)) ≡ passed → first_of (map_rules s (map_of s ks)) ≡ refused 13 0 → ⊥
  passed_refused e f = let z : ◌≡◌ {A = ℕ} 0 1 = cc in omega arith

  -- RULES 13 AND 14 LET THE MAP PASS EXACTLY IF THE LISTING HAS EVERY NODE NAMED
  pub passes_exactly : (first_of (map_rules s (map_of s ks)) ≡ passed) ↔ Listed s ks
  passes_exactly = (passed_listed, passes)

  -- AND ELSE IT IS 13
  pub thirteen_exactly : (first_of (map_rules s (map_of s ks)) ≡ refused 13 0) ↔ (Listed s ks → ⊥)
  thirteen_exactly = (λ e h. passed_refused (passes h) e, refuses)
