-- Walks by sweeps: rows that have every link and nothing but walks stay so, and where they are settled they have every walk.
use mathlib.Core.Path.{◌≡◌, refl, sym, subst, ◌∙◌}
use mathlib.Core.Bool.{Bool, true, false}
use mathlib.Core.Logic.{◌⊎◌, inl, inr, ⊎_elim}
use mathlib.Core.List.{List, [], ◌∷◌, ◌++◌}
use Prim.Native.Nat.{ℕ, ◌+◌, ◌≤◌, ◌<◌}
use native.Mathlib.Omega.{arith}
use borrow.Author.Count.{below_more}
use lib.ListN.{length}
use Rattle.listing.specs.Node.{Listing, node}
use Rattle.order.specs.Rows.{All, Row}
use Rattle.order.specs.Walks.{Next, Succ, Walk}
use Rattle.order.proofs.Lists.{row_join, row_map}
use Rattle.rows.specs.Inner.Rows.{Vouches, Has, Holds, Link}
use Rattle.rows.specs.Inner.Touched.{Poured, Covers}
use Rattle.reach.specs.Inner.Whole.{Through}
use Rattle.reach.specs.Inner.Links.{Walked, Begun, Pulled, Calm, Settled}
use Rattle.rows.proofs.Places.{row_or_rest}
use Rattle.rows.proofs.OneRow.{poured_gives, poured_keeps}

all_join : (P : ℕ → Type 0) (xs : List ℕ) (c : ℕ) (ys : List ℕ) → All P xs → P c → All P ys → All P (xs ++ (c ∷ ys))
all_join P [] c ys f p g = (p, g)
all_join P (x ∷ xs) c ys f p g = (f.0, all_join P xs c ys f.1 p g)

-- ---- a row, and all rows

pub pulled_none : (m w : List ℕ) (n a b : ℕ) → Pulled m w w n a b
pulled_none m w n a b = record { gives = λ x y hy h. inl h; keeps = λ x y hy h. h }

pub pulled_or : (m w v : List ℕ) (n a k : ℕ) → k < n → Has m 0 k → Poured w w v a k → Pulled m w v n a k
pulled_or m w v n a k hk hm p =
    record {
      gives = λ x y hy. row_or_rest (λ x. Has v x y → Has w x y ⊎ ((x ≡ a) × (k < n) × Has m 0 k × Has w k y)) a
          (λ h. ⊎_elim inl (λ q. inr (refl, hk, hm, q)) (poured_gives w w v a k p y hy h)) (λ x e h. inl (sym (p.rest x y hy e) ∙ h)) x;
      keeps = poured_keeps w w v a k p;
    }

pub calm_of : (m w : List ℕ) (n a k b : ℕ) (r : Bool) → k ≡ b → Vouches r (Covers w a k) → Vouches r (Calm m w n a b)
calm_of m w n a k b true e v = λ l h. subst (λ (z : ℕ). Covers w a z) e v
calm_of m w n a k b false e v = tt

-- the rows below k are settled
abbrev pub Calms : Listing → List ℕ → List ℕ → ℕ → ℕ → Type 0
Calms L m w n k = (a b : ℕ) → a < k → Next (node L a) b → Calm m w n a b

pub calms_more : (L : Listing) (m w : List ℕ) (n k : ℕ) → Calms L m w n k
    → Calm m w n k (node L k).first → Calm m w n k (node L k).second → Calms L m w n (k + 1)
calms_more L m w n k g p q a b = below_more (λ a. Next (node L a) b → Calm m w n a b) k (λ a h s. g a b h s) here a
  where
    here : Next (node L k) b → Calm m w n k b
    here (inl e) = subst (Calm m w n k) e p
    here (inr e) = subst (Calm m w n k) e q

-- ---- walks

module _ (L : Listing) (m : List ℕ) (n : ℕ) (hn : n ≤ 128) (size : length L ≡ n) where
  pub begun_links : (w : List ℕ) → Holds w n (Succ L) → Begun L m w n
  begun_links w h =
      record {
        sound = λ a b hb p. (let r = h.sound a b hb p in (r.0, r.1, ([], r.2, tt)));
        links = h.whole;
      }

  -- a link to a node of m, and a walk from there, are a walk
  pub begun_pull : (w v : List ℕ) (k b : ℕ) → k < n → Next (node L k) b → Begun L m w n → Pulled m w v n k b → Begun L m v n
  begun_pull w v k b hk s g p =
      record {
        sound = λ x y hy h. by x y hy (p.gives x y hy h);
        links = λ x y hx hy t. p.keeps x y (omega arith) (g.links x y hx hy t);
      }
    where
      by : (x y : ℕ) → y < 128 → Has w x y ⊎ ((x ≡ k) × (b < n) × Has m 0 b × Has w b y) → (x < n) × (y < n) × Walked L m x y
      by x y hy (inl h) = g.sound x y hy h
      by x y hy (inr q) =
          let r = g.sound b y hy q.3 in
          let hb = q.1 in
          let i = r.2 in
          subst (λ (z : ℕ). (z < n) × (y < n) × Walked L m z y) (sym q.0)
          (hk, r.1, (b ∷ i.0, ((omega arith, omega arith, s), i.1), (q.2, i.2)))

  -- SETTLED ROWS HAVE EVERY WALK
  pub settled_walks : (w : List ℕ) → Begun L m w n → Settled L m w n → Holds w n (Walked L m)
  settled_walks w g s = record { sound = g.sound; whole = λ a b ha hb p. reach a b p.0 p.1 p.2 }
    where
      reach : (a b : ℕ) (inside : List ℕ) → Walk L a inside b → All (λ c. Has m 0 c) inside → Has w a b
      reach a b [] r i =
          let ha = r.0 in
          let hb = r.1 in
          g.links a b (omega arith) (omega arith) r
      reach a b (c ∷ cs) r i =
          let ha = r.0.0 in
          let hc = r.0.1 in
          let h = reach c b cs r.1 i.1 in
          s.calm a c (omega arith) r.0.2 (omega arith) i.0 b (low c b cs r.1) h
        where
          low : (a b : ℕ) (inside : List ℕ) → Walk L a inside b → b < 128
          low a b [] r = let hb = r.1 in omega arith
          low a b (c ∷ cs) r = low c b cs r.1

  -- CLOSED ROWS DO TOO
  pub closed_walks : (w v : List ℕ) → Begun L m w n → Holds v n (Through n w m) → Holds v n (Walked L m)
  closed_walks w v g c =
      record {
        sound = λ a b hb h. (let r = c.sound a b hb h in let t = r.2 in (r.0, r.1, join a b t.0 t.1 t.2));
        whole = λ a b ha hb p. c.whole a b ha hb (p.0, row_map (Succ L) (Link n w) from a p.0 b p.1, p.2);
      }
    where
      step : (a b : ℕ) → Link n w a b → Walked L m a b
      step a b l = let hb = l.1 in (g.sound a b (omega arith) l.2).2

      join : (a b : ℕ) (inside : List ℕ) → Row (Link n w) a inside b → All (λ c. Has m 0 c) inside → Walked L m a b
      join a b [] r i = step a b r
      join a b (c ∷ cs) r i =
          let p = step a c r.0 in
          let q = join c b cs r.1 i.1 in
          (p.0 ++ (c ∷ q.0), row_join (Succ L) a p.0 c q.0 b p.1 q.1, all_join (λ c. Has m 0 c) p.0 c q.0 p.2 i.0 q.2)

      from : (a b : ℕ) → Succ L a b → Link n w a b
      from a b s =
          let ha = s.0 in
          let hb = s.1 in
          (omega arith, omega arith, g.links a b (omega arith) (omega arith) s)
