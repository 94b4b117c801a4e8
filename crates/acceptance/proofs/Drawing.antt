-- The map drawn from the nodes named, node by node, and its length.
use mathlib.Core.Path.{◌≡◌, refl, sym, ap, ◌∙◌}
use mathlib.Core.Bool.{Bool, true, false, cond}
use mathlib.Core.List.{List, [], ◌∷◌}
use Prim.Native.Nat.{ℕ, zero, suc, ◌+◌, ◌≤◌, ◌<◌}
use native.Mathlib.Nat.{add-zero, add-suc, suc-add}
use native.Mathlib.Omega.{arith}
use borrow.Author.Tests.{lt-ltb, le-ltb, eqb-true, eqb-false}
use lib.ListN.{length, get_or, take, drop, set, replicate, length-set, length-replicate, get_or-replicate, drop_of_length-le}
use lib.Seq.{length-take-le, get_or-take, get_or-set_same, get_or-set_other, ext_get_or}
use lib.Dec.{eqb}
use Rattle.listing.specs.Bytes.{byte}
use Rattle.listing.proofs.Stores.{next}
use Rattle.patch.specs.Patching.{map_byte}
use Rattle.acceptance.specs.Accept.{named, map_length, drawn}
use Rattle.acceptance.specs.Inner.Naming.{Drawn}

-- ── The length ──────────────────────────────────────────────────────────────
module _ (n k : ℕ) where
  pub reached : k < n → n ≡ map_length n (k ∷ [])
  reached h = ap (λ (b : Bool). cond b n (suc k)) (sym (lt-ltb k n h))

  pub not_reached : n ≤ k → k + 1 ≡ map_length n (k ∷ [])
  not_reached h =
      let e : k + 1 ≡ suc k = omega arith in
      e ∙ ap (λ (b : Bool). cond b n (suc k)) (sym (le-ltb k n h))

module _ (ks : List ℕ) (i n : ℕ) {goal : ℕ} (inv : map_length n (drop i ks) ≡ goal) where
  pub one_reached : {m : ℕ} → i < length ks → m ≡ map_length n (byte ks i ∷ []) → map_length m (drop (i + 1) ks) ≡ goal
  one_reached {m} h e = ap (λ (l : ℕ). map_length l (drop (i + 1) ks)) e ∙ sym (ap (map_length n) (next ks i 0 h)) ∙ inv

  pub all_reached : length ks ≤ i → n ≡ goal
  all_reached h = sym (ap (map_length n) (drop_of_length-le ks {i = i} h)) ∙ inv

-- ── The bytes ───────────────────────────────────────────────────────────────
-- byte x of the map, with those of ks that are still to be drawn
abbrev later : List ℕ → List ℕ → ℕ → ℕ
later ks map x = cond (named ks x) 1 (byte map x)

-- what is drawn once ks are drawn too is the map of all
pub record Left (all ks map : List ℕ) : Type 0 where
  pub each : (x : ℕ) → x < length map → later ks map x ≡ map_byte (named all x)

as_byte : (b : Bool) → cond b 1 0 ≡ map_byte b
as_byte true = refl
as_byte false = refl

pub zeros : (n : ℕ) → Drawn [] (replicate n 0)
zeros n = record { each = λ i h. get_or-replicate n i 0 0 (omega (arith, length-replicate {A = ℕ} n 0)) }

pub none_drawn : {ks map : List ℕ} → Drawn [] map → Left ks ks map
none_drawn {ks} {map} d = record { each = λ x h. ap (cond (named ks x) 1) (d.each x h) ∙ as_byte (named ks x) }

module _ (all ks map : List ℕ) (i : ℕ) (left : Left all (drop i ks) map) where
  pub one_drawn : i < length ks → byte ks i < length map → Left all (drop (i + 1) ks) (set map (byte ks i) 1)
  one_drawn h k = record { each = at }
    where
      rest : List ℕ
      rest = drop (i + 1) ks

      either : (b : Bool) → ◌≡◌ {A = ℕ} (cond b 1 1) 1
      either true = refl
      either false = refl

      -- with the node's test known
      known : (x : ℕ) (b : Bool) → eqb (byte ks i) x ≡ b → cond (cond b true (named rest x)) 1 (byte map x) ≡ later (byte ks i ∷ rest) map x
      known x b e = ap (λ (t : Bool). cond (cond t true (named rest x)) 1 (byte map x)) (sym e)

      of : (x : ℕ) (b : Bool) → eqb (byte ks i) x ≡ b → later rest (set map (byte ks i) 1) x ≡ later (byte ks i ∷ rest) map x
      of x true e =
          let same = eqb-true (byte ks i) x e in
          let here = ap (byte (set map (byte ks i) 1)) (sym same) ∙ get_or-set_same map (byte ks i) 1 0 k in
          ap (cond (named rest x) 1) here ∙ either (named rest x) ∙ known x true e
      of x false e =
          let there = get_or-set_other map (byte ks i) x 1 0 (λ d. eqb-false (byte ks i) x e (sym d)) in
          ap (cond (named rest x) 1) there ∙ known x false e

      at : (x : ℕ) → x < length (set map (byte ks i) 1) → later rest (set map (byte ks i) 1) x ≡ map_byte (named all x)
      at x l =
          of x (eqb (byte ks i) x) refl
          ∙ ap (λ (r : List ℕ). later r map x) (sym (next ks i 0 h))
          ∙ left.each x (omega (arith, length-set map (byte ks i) 1))

  pub all_drawn : length ks ≤ i → Drawn all map
  all_drawn h = record { each = λ x l. sym (ap (λ (r : List ℕ). later r map x) (drop_of_length-le ks {i = i} h)) ∙ left.each x l }

-- ── The map ─────────────────────────────────────────────────────────────────
pub drawn_length : (ks : List ℕ) (i n : ℕ) → length (drawn ks i n) ≡ n
drawn_length ks i zero = refl
drawn_length ks i (suc n) = ap suc (drawn_length ks (suc i) n)

pub drawn_at : (ks : List ℕ) (i n x : ℕ) → x < n → byte (drawn ks i n) x ≡ map_byte (named ks (i + x))
drawn_at ks i zero x h = absurd (omega arith)
drawn_at ks i (suc n) zero h = ap (λ (j : ℕ). map_byte (named ks j)) (sym (add-zero i))
drawn_at ks i (suc n) (suc x) h = drawn_at ks (suc i) n x (omega arith) ∙ ap (λ (j : ℕ). map_byte (named ks j)) (suc-add i x ∙ sym (add-suc i x))

-- WHAT IS DRAWN IS THE MAP OF THE NODES NAMED
pub drawn_map : (ks map : List ℕ) (n : ℕ) → n ≤ length map → Drawn ks map → take n map ≡ drawn ks 0 n
drawn_map ks map n h d =
    ext_get_or 0 (take n map) (drawn ks 0 n) (length-take-le n map h ∙ sym (drawn_length ks 0 n)) at
  where
    at : (i : ℕ) → i < length (take n map) → get_or (take n map) i 0 ≡ get_or (drawn ks 0 n) i 0
    at i l =
        let low : i < n = omega (arith, length-take-le n map h) in
        let from : 0 + i ≡ i = omega arith in
        get_or-take n map i 0 low ∙ d.each i (omega arith) ∙ ap (λ (j : ℕ). map_byte (named ks j)) (sym from) ∙ sym (drawn_at ks 0 n i low)
