-- The order in which pairs and chains are compared: of two, one comes first or they are equal; a list has a least entry.
use mathlib.Core.Path.{◌≡◌, refl, sym, ap₂, ◌∙◌, subst}
use mathlib.Core.Logic.{inl, inr}
use mathlib.Core.List.{List, [], ◌∷◌}
use Prim.Native.Nat.{ℕ, ◌<◌}
use native.Mathlib.Decide.{dec_lt}
use native.Mathlib.Omega.{arith}
use lib.ListN.{length}
use Rattle.order.specs.Rows.{In}
use Rattle.order.specs.Chains.{Ends}
use Rattle.order.specs.Verdict.{Before, Smaller, Better}

pub data Order (A : Type 0) (lt : A → A → Type 0) (x y : A) : Type 0 where
  less : lt x y → Order A lt x y
  same : x ≡ y → Order A lt x y
  more : lt y x → Order A lt x y

order_ℕ : (x y : ℕ) → Order ℕ (λ a b. a < b) x y
order_ℕ x y = go (dec_lt x y) (dec_lt y x)
  where
    go : Dec (x < y) → Dec (y < x) → Order ℕ (λ a b. a < b) x y
    go (yes h) d = less h
    go (no n) (yes h) = more h
    go (no n) (no m) = same (omega arith)

pub order_ends : (p q : Ends) → Order Ends Before p q
order_ends p q = go (order_ℕ p.0 q.0) (order_ℕ p.1 q.1)
  where
    go : Order ℕ (λ a b. a < b) p.0 q.0 → Order ℕ (λ a b. a < b) p.1 q.1 → Order Ends Before p q
    go (less h) d = less (inl h)
    go (more h) d = more (inl h)
    go (same e) (less h) = less (inr (e, h))
    go (same e) (more h) = more (inr (sym e, h))
    go (same e) (same f) = same (λ i. (e i, f i))

order_lists : (ps qs : List Ends) → length ps ≡ length qs → Order (List Ends) Smaller ps qs
order_lists [] [] e = same refl
order_lists [] (q ∷ qs) e = absurd (omega arith)
order_lists (p ∷ ps) [] e = absurd (omega arith)
order_lists (p ∷ ps) (q ∷ qs) e = go (order_ends p q) (order_lists ps qs (omega arith))
  where
    go : Order Ends Before p q → Order (List Ends) Smaller ps qs → Order (List Ends) Smaller (p ∷ ps) (q ∷ qs)
    go (less h) d = less (inl h)
    go (more h) d = more (inl h)
    go (same e) (less h) = less (inr (e, h))
    go (same e) (more h) = more (inr (sym e, h))
    go (same e) (same f) = same (ap₂ (λ (x : Ends) (xs : List Ends). x ∷ xs) e f)

pub order_better : (ps qs : List Ends) → Order (List Ends) Better ps qs
order_better ps qs = go (order_ℕ (length ps) (length qs))
  where
    even : length ps ≡ length qs → Order (List Ends) Smaller ps qs → Order (List Ends) Better ps qs
    even e (less h) = less (inr (e, h))
    even e (same f) = same f
    even e (more h) = more (inr (sym e, h))

    go : Order ℕ (λ a b. a < b) (length ps) (length qs) → Order (List Ends) Better ps qs
    go (less h) = less (inl h)
    go (same e) = even e (order_lists ps qs e)
    go (more h) = more (inl h)

pub before_trans : (p q s : Ends) → Before p q → Before q s → Before p s
before_trans p q s (inl h) (inl k) = inl (omega arith)
before_trans p q s (inl h) (inr k) = inl (omega (arith, k.0))
before_trans p q s (inr h) (inl k) = inl (omega (arith, h.0))
before_trans p q s (inr h) (inr k) = inr (h.0 ∙ k.0, omega (arith, h.1, k.1))

smaller_trans : (ps qs ss : List Ends) → Smaller ps qs → Smaller qs ss → Smaller ps ss
smaller_trans [] qs ss h k = absurd h
smaller_trans (p ∷ ps) [] ss h k = absurd h
smaller_trans (p ∷ ps) (q ∷ qs) [] h k = absurd k
smaller_trans (p ∷ ps) (q ∷ qs) (s ∷ ss) (inl h) (inl k) = inl (before_trans p q s h k)
smaller_trans (p ∷ ps) (q ∷ qs) (s ∷ ss) (inl h) (inr k) = inl (subst (Before p) k.0 h)
smaller_trans (p ∷ ps) (q ∷ qs) (s ∷ ss) (inr h) (inl k) = inl (subst (λ (v : Ends). Before v s) (sym h.0) k)
smaller_trans (p ∷ ps) (q ∷ qs) (s ∷ ss) (inr h) (inr k) = inr (h.0 ∙ k.0, smaller_trans ps qs ss h.1 k.1)

pub better_trans : (ps qs ss : List Ends) → Better ps qs → Better qs ss → Better ps ss
better_trans ps qs ss (inl h) (inl k) = inl (omega arith)
better_trans ps qs ss (inl h) (inr k) = inl (omega (arith, k.0))
better_trans ps qs ss (inr h) (inl k) = inl (omega (arith, h.0))
better_trans ps qs ss (inr h) (inr k) = inr (h.0 ∙ k.0, smaller_trans ps qs ss h.1 k.1)

pub before_irrefl : (p : Ends) → Before p p → ⊥
before_irrefl p (inl h) = omega arith
before_irrefl p (inr h) = omega (arith, h.1)

smaller_irrefl : (ps : List Ends) → Smaller ps ps → ⊥
smaller_irrefl [] h = h
smaller_irrefl (p ∷ ps) (inl h) = before_irrefl p h
smaller_irrefl (p ∷ ps) (inr h) = smaller_irrefl ps h.1

pub better_irrefl : (ps : List Ends) → Better ps ps → ⊥
better_irrefl ps (inl h) = omega arith
better_irrefl ps (inr h) = smaller_irrefl ps h.1

-- A LIST WITH AN ENTRY HAS A LEAST ONE
module _ {A : Type 0} (lt : A → A → Type 0) (order : (x y : A) → Order A lt x y)
    (trans : (x y z : A) → lt x y → lt y z → lt x z) (irrefl : (x : A) → lt x x → ⊥) where
  pub record Min (xs : List A) : Type 0 where
    pub at : A
    pub inside : In at xs
    pub least : (y : A) → In y xs → lt y at → ⊥

  pub min_of : (x : A) (xs : List A) → Min (x ∷ xs)
  min_of x [] = record { at = x; inside = inl refl; least = λ y. elim [ inl e ↦ λ h. irrefl x (subst (λ (v : A). lt v x) e h) | inr i ↦ λ h. i ] }
  min_of x (y ∷ ys) = go (min_of y ys)
    where
      go : Min (y ∷ ys) → Min (x ∷ y ∷ ys)
      go m = pick (order x m.at)
        where
          first : lt x m.at → (z : A) → In z (x ∷ y ∷ ys) → lt z x → ⊥
          first l z (inl e) h = irrefl x (subst (λ (v : A). lt v x) e h)
          first l z (inr i) h = m.least z i (trans z x m.at h l)

          later : (lt x m.at → ⊥) → (z : A) → In z (x ∷ y ∷ ys) → lt z m.at → ⊥
          later n z (inl e) h = n (subst (λ (v : A). lt v m.at) e h)
          later n z (inr i) h = m.least z i h

          pick : Order A lt x m.at → Min (x ∷ y ∷ ys)
          pick (less l) = record { at = x; inside = inl refl; least = first l }
          pick (same e) = record { at = m.at; inside = inr m.inside; least = later (λ l. irrefl m.at (subst (λ (v : A). lt v m.at) e l)) }
          pick (more l) = record { at = m.at; inside = inr m.inside; least = later (λ k. irrefl x (trans x m.at x k l)) }

  pub min_in : (xs : List A) (x : A) → In x xs → Min xs
  min_in [] x i = absurd i
  min_in (y ∷ ys) x i = min_of y ys
