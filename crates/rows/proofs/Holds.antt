-- The laws of `Holds`: rows that keep one relation keep every equal one.
use mathlib.Core.List.{List}
use Prim.Native.Nat.{ℕ, ◌≤◌, ◌<◌}
use native.Mathlib.Omega.{arith}
use Rattle.rows.specs.Inner.Rows.{Holds, Low, Link}

module _ {w : List ℕ} {n : ℕ} where
  pub holds_low : {A : ℕ → ℕ → Type 0} → Holds w n A → Low n w
  holds_low h a b hb p = let r = h.sound a b hb p in (r.0, r.1)

  -- what the rows keep, read as links
  pub link_of : {A : ℕ → ℕ → Type 0} → Holds w n A → (a b : ℕ) → a < n → b < n → A a b → Link n w a b
  link_of h a b ha hb p = (ha, hb, h.whole a b ha hb p)

  pub of_link : {A : ℕ → ℕ → Type 0} → n ≤ 128 → Holds w n A → (a b : ℕ) → Link n w a b → A a b
  of_link hn h a b l = let hb = l.1 in (h.sound a b (omega arith) l.2).2

  -- THE ROWS KEEP EVERY EQUAL RELATION
  pub holds_map : {A B : ℕ → ℕ → Type 0}
      → ((a b : ℕ) → a < n → b < n → A a b → B a b) → ((a b : ℕ) → a < n → b < n → B a b → A a b) → Holds w n A → Holds w n B
  holds_map f g h =
      record {
        sound = λ a b hb p. (let r = h.sound a b hb p in (r.0, r.1, f a b r.0 r.1 r.2));
        whole = λ a b ha hb q. h.whole a b ha hb (g a b ha hb q);
      }
