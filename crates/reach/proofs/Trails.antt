-- Walks whose inside nodes are below a number, and the rounds that let one more node lie inside.
use mathlib.Core.Path.{◌≡◌}
use mathlib.Core.Logic.{◌⊎◌, inl, inr, ⊎_elim}
use mathlib.Core.List.{List, [], ◌∷◌}
use Prim.Native.Nat.{ℕ, ◌+◌, ◌≤◌, ◌<◌}
use native.Mathlib.Omega.{arith}
use native.Mathlib.Decide.{dec_lt}
use Rattle.order.specs.Rows.{All, Row}
use Rattle.rows.specs.Inner.Rows.{Has, Holds, Low, Link}
use Rattle.reach.specs.Inner.Whole.{Through, Passed}

-- ---- trails, over any links and any mask

-- a trail of at least one link, with every inside node in M
pub data Trail (L : ℕ → ℕ → Type 0) (M : ℕ → Type 0) : ℕ → ℕ → Type 0 where
  link : {a b : ℕ} → L a b → Trail L M a b
  via : {a c b : ℕ} → L a c → M c → Trail L M c b → Trail L M a b

module _ {L : ℕ → ℕ → Type 0} {M : ℕ → Type 0} where
  pub trail_of : {a b : ℕ} (inside : List ℕ) → Row L a inside b → All M inside → Trail L M a b
  trail_of [] r i = link r
  trail_of (c ∷ cs) r i = via r.0 i.0 (trail_of cs r.1 i.1)

  pub inside_of : {a b : ℕ} → Trail L M a b → (inside : List ℕ) × Row L a inside b × All M inside
  inside_of (link l) = ([], l, tt)
  inside_of (via {c = c} l i w) = let r = inside_of w in (c ∷ r.0, (l, r.1), (i, r.2))

  trail_join : {a k b : ℕ} → Trail L M a k → M k → Trail L M k b → Trail L M a b
  trail_join (link l) i v = via l i v
  trail_join (via l j w) i v = via l j (trail_join w i v)

abbrev Below : (ℕ → Type 0) → ℕ → ℕ → Type 0
Below M k c = (c < k) × M c

trail_up : {L : ℕ → ℕ → Type 0} {M N : ℕ → Type 0} (f : (c : ℕ) → M c → N c) {a b : ℕ} → Trail L M a b → Trail L N a b
trail_up f (link l) = link l
trail_up f (via {c = c} l i w) = via l (f c i) (trail_up f w)

no_inside : {L : ℕ → ℕ → Type 0} {M : ℕ → Type 0} {a b : ℕ} → Trail L (Below M 0) a b → L a b
no_inside (link l) = l
no_inside (via l i w) = absurd (omega arith)

module _ (L : ℕ → ℕ → Type 0) (M : ℕ → Type 0) (k : ℕ) where
  -- a trail below k, or one to k and one from k
  abbrev Split : ℕ → ℕ → Type 0
  Split a b = Trail L (Below M k) a b ⊎ (Trail L (Below M k) a k × Trail L (Below M k) k b)

  split_via : {a b : ℕ} (c : ℕ) → L a c → M c → c < k + 1 → Split c b → Dec (c < k) → Split a b
  split_via c l i h (inl w) (yes d) = inl (via l (d, i) w)
  split_via c l i h (inr p) (yes d) = inr (via l (d, i) p.0, p.1)
  split_via {a} {b} c l i h (inl w) (no d) =
      let e : c ≡ k = omega arith in
      inr (link (rw e at l), rw e at w)
  split_via {a} {b} c l i h (inr p) (no d) =
      let e : c ≡ k = omega arith in
      inr (link (rw e at l), p.1)

  trail_split : {a b : ℕ} → Trail L (Below M (k + 1)) a b → Split a b
  trail_split (link l) = inl (link l)
  trail_split (via {c = c} l i w) = split_via c l i.1 i.0 (trail_split w) (dec_lt c k)

-- ---- over the links of rows, among n nodes

module _ (n : ℕ) (l : List ℕ) {M : ℕ → Type 0} where
  trail_from : {a b : ℕ} → Trail (Link n l) M a b → a < n
  trail_from (link s) = s.0
  trail_from (via s i w) = s.0

  trail_to : {a b : ℕ} → Trail (Link n l) M a b → b < n
  trail_to (link s) = s.1
  trail_to (via s i w) = trail_to w

  trail_low : {a b : ℕ} → Trail (Link n l) M a b → Trail (Link n l) (Below M n) a b
  trail_low (link s) = link s
  trail_low (via s i w) = via s (s.1, i) (trail_low w)

-- w's rows are the trails below k over l's
pub record TrailsBelow (n : ℕ) (m l w : List ℕ) (k : ℕ) : Type 0 where
  pub gives : (x y : ℕ) → y < 128 → Has w x y → Trail (Link n l) (Below (Has m 0) k) x y
  pub keeps : (x y : ℕ) → Trail (Link n l) (Below (Has m 0) k) x y → Has w x y

pub trails_none : (n : ℕ) (m w : List ℕ) → Low n w → TrailsBelow n m w w 0
trails_none n m w low =
    record {
      gives = λ x y hy h. (let o = low x y hy h in link (o.0, o.1, h));
      keeps = λ x y p. (no_inside p).2;
    }

module _ (n : ℕ) (m l w : List ℕ) (hn : n ≤ 128) where
  module _ (k : ℕ) (hk : k < n) (r : TrailsBelow n m l w k) where
    up : (c : ℕ) → Below (Has m 0) k c → Below (Has m 0) (k + 1) c
    up c i = (omega arith, i.1)

    pub trails_skip : (Has m 0 k → ⊥) → TrailsBelow n m l w (k + 1)
    trails_skip ne =
        record { gives = λ x y hy h. trail_up up (r.gives x y hy h); keeps = λ x y p. r.keeps x y (trail_up down p) }
      where
        down : (c : ℕ) → Below (Has m 0) (k + 1) c → Below (Has m 0) k c
        down c i = by (dec_lt c k)
          where
            by : Dec (c < k) → Below (Has m 0) k c
            by (yes d) = (d, i.1)
            by (no d) =
                let o = i.0 in
                let e : c ≡ k = omega arith in
                absurd (ne (rw e at i.1))

    pub trails_pass : (v : List ℕ) → Has m 0 k → Passed w v n k → TrailsBelow n m l v (k + 1)
    trails_pass v i p =
        record {
          gives = λ x y hy h.
              ⊎_elim (λ q. trail_up up (r.gives x y hy q))
              (λ q. trail_join (trail_up up (r.gives x k (omega arith) q.0)) (omega arith, i) (trail_up up (r.gives k y hy q.1)))
              (p.gives x y hy h);
          keeps = λ x y u.
              (let hx = trail_from n l u in
              let hy = trail_to n l u in
              ⊎_elim (λ q. p.keeps x y (omega arith) (r.keeps x y q))
              (λ q. p.done x y hx (omega arith) (r.keeps x k q.0) (r.keeps k y q.1))
              (trail_split (Link n l) (Has m 0) k u));
        }

  -- THE LAST ROUND'S ROWS KEEP ALL WALKS THROUGH THE MASK
  pub trails_all : TrailsBelow n m l w n → Holds w n (Through n l m)
  trails_all r =
      record {
        sound = λ a b hb h. (
            let u = r.gives a b hb h in
            (trail_from n l u, trail_to n l u, inside_of (trail_up (λ c i. i.1) u)));
        whole = λ a b ha hb p. r.keeps a b (trail_low n l (trail_of p.0 p.1 p.2));
      }
