-- The nodes of a row, given one by one: what a loop over them keeps, and what `find` gives.
use mathlib.Core.Path.{◌≡◌, refl, sym, ap, subst, ◌∙◌}
use mathlib.Core.Bool.{Bool, true, false}
use mathlib.Core.List.{List, [], ◌∷◌}
use Prim.Native.Nat.{ℕ, ◌+◌, ◌*◌, ◌≤◌, ◌<◌}
use native.Mathlib.Omega.{arith}
use native.Mathlib.Decide.{dec_lt}
use denote.Param.Members.{Mut}
use denote.Ref.{Bor}
use Rattle.std.specs.Fn.{CalledAt}
use Rattle.std.specs.Iterator.{Yields, YieldsThen, CallableAtEachTurn}
use Rattle.std.specs.List.{FoldsTo}
use Rattle.std.specs.Prelude.{Option, Some, None, IfSome}
use Rattle.rows.specs.Inner.Rows.{Has}
use Rattle.rows.specs.Inner.Least.{Least, LeastIfAny}
use Rattle.rows.specs.Inner.Nodes.{Coming, coming, Gives}
use Rattle.rows.proofs.Searching.{Searched, search_ends, search_fails, searched_first, searched_more}

-- ---- a loop

-- the nodes of row a of w below n are given, those from a place on are still to come, and Done holds of that place
pub record Passed (w : List ℕ) (a n : ℕ) (Done : ℕ → Type 0) (s : Coming) : Type 0 where
  pub place : ℕ
  pub stands : s ≡ coming w a place n
  pub done : Done place

-- Done at a place goes on to every place that no node of the row stands before
abbrev pub Skips : List ℕ → ℕ → (ℕ → Type 0) → Type 0
Skips w a Done = (k j : ℕ) → k ≤ j → ((z : ℕ) → k ≤ z → z < j → Has w a z → ⊥) → Done k → Done j

-- what a turn has, at the node x
pub record Turn (w : List ℕ) (a n : ℕ) (Done : ℕ → Type 0) (x : ℕ) (t : Coming) : Type 0 where
  pub low : x < n
  pub has : Has w a x
  pub done : Done x
  pub after : t ≡ coming w a (x + 1) n

module _ {w : List ℕ} {a n : ℕ} {Done : ℕ → Type 0} {s t : Coming} (skips : Skips w a Done) (p : Passed w a n Done s) where
  pub turn : {x : ℕ} → Gives s (Some x) t → Turn w a n Done x t
  turn {x} g =
      let h = rw p.stands at g in
      let l = h.least in
      record { low = l.0; has = l.1.here l.0; done = skips p.place x l.1.from l.1.none p.done; after = h.rest }

  -- WHERE NONE IS LEFT, ALL BELOW n ARE DONE
  pub all_passed : Gives s None t → Done n
  all_passed g =
      let h = rw p.stands at g in
      let l = h.least in
      skips p.place n l.from l.none p.done

-- ---- a call of `find`: the least node that satisfies P, where only nodes of the row do

module _ {P : ℕ → Type 0} {F : Type 0} {g : Mut F (Bor ℕ × Unit {0}) Bool} (f : F) (w : List ℕ) (a n : ℕ)
    (within : (z : ℕ) → z < n → P z → Has w a z)
    (yes' : (x : ℕ) (q : F) → x < n → Has w a x → CalledAt g f x true q → P x)
    (no' : (x : ℕ) (q : F) → x < n → Has w a x → CalledAt g f x false q → (q ≡ f) × (P x → ⊥)) where
  -- the calls from s on gave xs, which f refused, and then r
  abbrev Run : Coming → Coming → Option ℕ → List ℕ → Type 0
  Run s u r xs = (j : F) × YieldsThen Gives s xs r u × FoldsTo (λ p x q. CalledAt g p x false q) f xs j × IfSome r (λ x. (h : F) × CalledAt g j x true h)

  first : (r : Option ℕ) (b : ℕ) (j : F) → f ≡ j → LeastIfAny (Has w a) b n r → IfSome r (λ x. (h : F) × CalledAt g j x true h) → LeastIfAny P b n r
  first (Some x) b j e l h =
      let p = yes' x h.0 l.0 (l.1.here l.0) (rw (← e) at h.1) in
      (l.0, search_ends (searched_first within l.1) p)
  first None b j e l h = search_fails (searched_first within l) (omega arith)

  over : (r x b : ℕ) → Searched P b n x → (P x → ⊥) → Least P (x + 1) n r → Least P b n r
  over r x b p ne o =
      let q : Searched P b n r = searched_more (λ z h k. k) p ne o in
      record { low = q.low; from = q.from; here = o.here; none = q.none }

  more : (r : Option ℕ) (x b : ℕ) → Searched P b n x → (P x → ⊥) → LeastIfAny P (x + 1) n r → LeastIfAny P b n r
  more (Some r) x b p ne o = (o.0, over r x b p ne o.1)
  more None x b p ne o = over n x b p ne o

  run : (xs : List ℕ) (b : ℕ) (s u : Coming) (r : Option ℕ) → s ≡ coming w a b n → Run s u r xs → LeastIfAny P b n r
  run [] b s u r e d =
      let t : Gives (coming w a b n) r u = subst (λ k. Gives k r u) (sym d.1.1 ∙ e) d.1.2 in
      first r b d.0 d.2 t.least d.3
  run (x ∷ xs) b s u r e d =
      let y = d.1.1 in
      let t : Gives (coming w a b n) (Some x) y.0 = subst (λ k. Gives k (Some x) y.0) e y.1 in
      let l = t.least in
      let o = d.2 in
      let q = no' x o.0 l.0 (l.1.here l.0) o.1 in
      more r x b (searched_first within l.1) q.1
      (run xs (x + 1) y.0 u r t.rest (d.0, (d.1.0, y.2, d.1.2), subst (λ k. FoldsTo (λ p x q. CalledAt g p x false q) k xs d.0) q.0 o.2, d.3))

  -- WHERE THE NODES FROM b ON ARE SEARCHED, THE LEAST IS FOUND
  pub found : (b : ℕ) (s u : Coming) (r : Option ℕ) → s ≡ coming w a b n
      → (xs : List ℕ) × (j : F) × YieldsThen Gives s xs r u × FoldsTo (λ p x q. CalledAt g p x false q) f xs j × IfSome r (λ x. (h : F) × CalledAt g j x true h)
      → LeastIfAny P b n r
  found b s u r e d = run d.0 b s u r e (d.1, d.2, d.3, d.4)
