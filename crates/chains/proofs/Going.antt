-- The descent by the least pairs, a pair at a time.
use mathlib.Core.Path.{◌≡◌, refl, sym, ap, subst, ◌∙◌}
use mathlib.Core.List.{List, [], ◌∷◌, ◌++◌, append-nil}
use Prim.Native.Nat.{ℕ, suc, ◌+◌, ◌-◌, ◌*◌, ◌≤◌, ◌<◌}
use native.Mathlib.Omega.{arith}
use native.Mathlib.Numerals.{add-one}
use lib.ListN.{length, get_or, set, take, drop, length-set}
use lib.Seq.{take-suc-set, append_snoc, drop-set-lt, drop-drop}
use Rattle.std.specs.Prelude.{Option, Some, IsSome}
use Rattle.rows.specs.Inner.Least.{Least, LeastIfAny}
use Rattle.rows.specs.Inner.Rows.{Members}
use Rattle.chains.specs.Inner.Levels.{AtDistance, Into, Hits}
use Rattle.chains.specs.Inner.Descent.{Mid, End, MidAt, EndAt, Steep, stop, down, Downhill, Wrote, Descent}
use Rattle.rows.proofs.Searching.{some_found, least_same}
use Rattle.chains.proofs.Rounds.{into_hits, hits_into}

take_pair : (o l : List ℕ) (i j c y : ℕ) → j ≡ i + 2 → i + 1 < length o → take j (set (set o i c) (i + 1) y) ++ l ≡ take i o ++ c ∷ y ∷ l
take_pair o l i j c y f h =
    let e : j ≡ suc (i + 1) = omega arith in
    let e₁ : take j (set (set o i c) (i + 1) y) ≡ take (i + 1) (set o i c) ++ (y ∷ []) =
    ap (λ (k : ℕ). take k (set (set o i c) (i + 1) y)) e ∙ take-suc-set (set o i c) (i + 1) y (simp length-set h) in
    let e₂ : take (i + 1) (set o i c) ≡ take i o ++ (c ∷ []) =
    ap (λ (k : ℕ). take k (set o i c)) (add-one i) ∙ take-suc-set o i c (omega arith) in
    ap (λ (k : List ℕ). k ++ l) e₁ ∙ append_snoc (take (i + 1) (set o i c)) y l
    ∙ ap (λ (k : List ℕ). k ++ y ∷ l) e₂ ∙ append_snoc (take i o) c (y ∷ l)

drop_pair : (p o : List ℕ) (i j c y : ℕ) → j ≡ i + 2 → drop i p ≡ drop i o → drop j (set (set p i c) (i + 1) y) ≡ drop j o
drop_pair p o i j c y f e =
    rw f (drop-set-lt (i + 2) (set p i c) (i + 1) y (omega arith) ∙ drop-set-lt (i + 2) p i c (omega arith)
    ∙ sym (drop-drop 2 i p) ∙ ap (drop 2) e ∙ drop-drop 2 i o)

-- i of k pairs are written, and the last ends in a
pub record Going (n : ℕ) (m w d o p : List ℕ) (x k a i : ℕ) : Type 0 where
  pub long : length p ≡ length o
  pub low : a < n
  pub part : i ≤ k
  pub at : get_or d a 0 ≡ k - i
  pub leads : (l : List ℕ) → Steep n m w d (k - i) a l → Steep n m w d k x (take (2 * i) p ++ l)
  pub beyond : drop (2 * i) p ≡ drop (2 * i) o

pub going_none : (n : ℕ) (m w d o : List ℕ) (x k : ℕ) → Downhill n m w d o x k → Going n m w d o o x k x 0
going_none n m w d o x k h =
    let e : k - 0 ≡ k = omega arith in
    record { long = refl; low = h.low; part = omega arith; at = rw e h.at; leads = λ l p. (rw e at p); beyond = refl }

-- a turn: s keeps the nodes at the next distance
module _ (n : ℕ) (m w d s o p : List ℕ) (x k a i : ℕ) (h : Downhill n m w d o x k) (pos : i < k) (g : Going n m w d o p x k a i)
    (l : Members s n (AtDistance d (k - 1 - i))) where
  into : (z : ℕ) → z < n → Hits n w d (k - 1 - i) z → Into w s z
  into = hits_into n w s d (k - 1 - i) h.few l

  -- there is a middle of a pair into s
  pub mid_there : (r : Option ℕ) → LeastIfAny (Mid m w s a) 0 n r → IsSome r
  mid_there r f =
      let q = h.slope a (k - 1 - i) g.low (omega (arith, g.at)) (omega (arith, h.room, h.few)) in
      some_found (Mid m w s a) 0 n r f q.0 (omega arith) q.1 (q.2.0, into q.0 q.1 q.2.1)

  module _ (c : ℕ) (f : LeastIfAny (Mid m w s a) 0 n (Some c)) where
    mid_at : Least (MidAt n m w d (k - 1 - i) a) 0 n c
    mid_at = least_same (λ z b q. (q.0, into z b q.1)) (λ z b q. (q.0, into_hits n w s d (k - 1 - i) h.few l z b q.1)) f.1

    -- and an end
    pub end_there : (r : Option ℕ) → LeastIfAny (End w s c) 0 n r → IsSome r
    end_there r e = let q = (f.1.here f.0).1 in some_found (End w s c) 0 n r e q.0 (omega arith) (l.sound q.0 q.1 q.3).0 (q.2, q.3)

    module _ (y : ℕ) (e : LeastIfAny (End w s c) 0 n (Some y)) where
      end_at : Least (EndAt w d (k - 1 - i) c) 0 n y
      end_at = least_same (λ z b q. (q.0, l.whole z b q.1)) (λ z b q. (q.0, (l.sound z (omega (arith, h.few)) q.1).1)) e.1

      pub going_more : (q : List ℕ) → Wrote p q (2 * i) c y → Going n m w d o q x k y (i + 1)
      going_more q wr =
          rw wr (record {
            long = simp length-set g.long;
            low = e.0;
            part = omega arith;
            at = (end_at.here e.0).1 ∙ same;
            leads = λ j z. rw (take_pair p j (2 * i) (2 * (i + 1)) c y (omega arith) (omega (arith, g.long, h.fits))) (g.leads (c ∷ y ∷ j) (whole z));
            beyond = drop_pair p o (2 * i) (2 * (i + 1)) c y (omega arith) g.beyond;
          })
        where
          same : k - 1 - i ≡ k - (i + 1)
          same = omega arith

          whole : {j : List ℕ} → Steep n m w d (k - (i + 1)) y j → Steep n m w d (k - i) a (c ∷ y ∷ j)
          whole {j} z =
              let v : suc (k - 1 - i) ≡ k - i = omega arith in
              subst (λ (b : ℕ). Steep n m w d b a (c ∷ y ∷ j)) v (down f.0 mid_at e.0 end_at (rw (← same) at z))

-- WHERE ALL PAIRS ARE WRITTEN, THE DESCENT IS
pub going_all : (n : ℕ) (m w d o p : List ℕ) (x k a i : ℕ) → k ≤ i → Going n m w d o p x k a i → Descent n m w d o p x k
going_all n m w d o p x k a i z g =
    let e : i ≡ k = omega (arith, g.part) in
    let f : k - i ≡ 0 = omega arith in
    record {
      steep = rw (append-nil, e) at (g.leads [] (subst (λ (b : ℕ). Steep n m w d b a []) (sym f) (stop (g.at ∙ f))));
      beyond = rw e at g.beyond;
      long = g.long;
    }
