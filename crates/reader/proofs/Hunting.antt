-- The search from step to step: what is found stays right, and fewer nodes are left at each.
use mathlib.Core.Path.{◌≡◌, refl, sym, ap, subst, ◌∙◌}
use mathlib.Core.Logic.{◌⊎◌, inl, inr, ⊎_elim}
use mathlib.Core.Bool.{Bool, not, ◌&&◌}
use mathlib.Core.List.{List, [], ◌∷◌}
use Prim.Native.Nat.{ℕ, ◌+◌, ◌≤◌, ◌<◌}
use native.Mathlib.Omega.{arith}
use native.Mathlib.Decide.{ℕ_discrete}
use lib.Dec.{T, eqb, eqb→eq, T_not, not_T}
use lib.ListN.{length}
use Rattle.std.specs.Prelude.{Option, Some, None}
use Rattle.listing.specs.Node.{Listing, node}
use Rattle.listing.proofs.Bools.{both, both→, eq→eqb}
use Rattle.order.specs.Rows.{Row}
use Rattle.order.specs.Walks.{Succ}
use Rattle.order.specs.Entered.{EntryOf, Entered}
use Rattle.order.proofs.Entering.{entered_on}
use Rattle.rows.specs.Inner.Least.{Least, LeastIfAny}
use Rattle.rows.specs.Inner.Rows.{at, Has, Members}
use Rattle.rows.specs.Inner.Touched.{Removed, Copied}
use Rattle.reader.specs.Inner.Search.{IsEntry, Hunt, Left, Stepped, Since}
use Rattle.reader.proofs.Counting.{count, count_most, count_less}

-- ── Nothing is lost ─────────────────────────────────────────────────────────
pub since_none : (w t : List ℕ) → Since w t w t
since_none w t = record { keeps = λ x h k. k; only = λ x h k. inl k }

pub since_on : (n : ℕ) (w₀ t₀ w t v u z : List ℕ) (b c : ℕ) (r : Option ℕ) → Since w₀ t₀ w t → Left n w t v u b → Stepped n v z c r → Since w₀ t₀ z u
since_on n w₀ t₀ w t v u z b c r s l p = record {
  keeps = λ x h k. p.keeps x h (l.keeps x h (s.keeps x h k));
  only = λ x h k. ⊎_elim (s.only x h) (λ e. inr (λ g. e.2 (s.keeps x h g))) (l.waiting x h k);
}

-- ── How much is left ────────────────────────────────────────────────────────
-- tests of one bit
abbrev in? : List ℕ → ℕ → Bool
in? w x = eqb (at w 0 x) 1

in_is : (w : List ℕ) (x : ℕ) → T (in? w x) → Has w 0 x
in_is w x t = eqb→eq (at w 0 x) 1 t

is_in : (w : List ℕ) (x : ℕ) → Has w 0 x → T (in? w x)
is_in w x h = eq→eqb (at w 0 x) 1 h

-- how many nodes are not found, and how many are not done: found, and not to be followed any more
abbrev pub unfound : List ℕ → ℕ → ℕ
unfound w n = count (λ x. not (in? w x)) n

abbrev pub undone : List ℕ → List ℕ → ℕ → ℕ
undone w t n = count (λ x. not (in? w x && not (in? t x))) n

-- what is not found after was not before
lost : (w v : List ℕ) (x : ℕ) → (Has w 0 x → Has v 0 x) → T (not (in? v x)) → T (not (in? w x))
lost w v x f t = not_T (in? w x) (λ k. T_not (in? v x) t (is_in v x (f (in_is w x k))))

pub unfound_most : (n : ℕ) (w v : List ℕ) → n ≤ 128 → ((x : ℕ) → x < 128 → Has w 0 x → Has v 0 x) → unfound v n ≤ unfound w n
unfound_most n w v few f = count_most (λ x. not (in? w x)) (λ x. not (in? v x)) n (λ x h. lost w v x (f x (omega arith)))

pub unfound_less : (n : ℕ) (w v : List ℕ) (a : ℕ) → n ≤ 128 → a < n → ((x : ℕ) → x < 128 → Has w 0 x → Has v 0 x)
    → (Has w 0 a → ⊥) → Has v 0 a → unfound v n < unfound w n
unfound_less n w v a few h f out got =
    count_less (λ x. not (in? w x)) (λ x. not (in? v x)) n a h (λ x k. lost w v x (f x (omega arith)))
    (not_T (in? w a) (λ k. out (in_is w a k))) (λ t. T_not (in? v a) t (is_in v a got))

-- what a trail has before it: the nodes that are not found, and the next node itself
abbrev pub ahead : List ℕ → ℕ → Option ℕ → ℕ
ahead w n None = unfound w n
ahead w n (Some a) = unfound w n + 1

pub ahead_less : (n : ℕ) (w t v u z : List ℕ) (a b c : ℕ) (r : Option ℕ) → n ≤ 128 → Left n w t v u b → Stepped n v z c r
    → ahead z n r < ahead w n (Some a)
ahead_less n w t v u z a b c None few l p =
    let most = unfound_most n w z few (λ x k g. p.keeps x k (l.keeps x k g)) in
    omega (arith, most)
ahead_less n w t v u z a b c (Some r) few l p =
    let e = p.fresh r refl in
    let less = unfound_less n w z r few (omega (arith, e.0, e.1)) (λ x k g. p.keeps x k (l.keeps x k g)) (λ g. e.2 (l.keeps r (omega (arith, e.0, e.1)) g))
    (subst (Has z 0) (sym e.0) (p.new e.1)) in
    omega (arith, less)

-- a that was to be followed is done, and all that was done still is
pub undone_less : (n : ℕ) (w t u v z : List ℕ) (a : ℕ) → n ≤ 128 → a < n → Has w 0 a → Has t 0 a → Removed t u 0 a → Since w u v z
    → undone v z n < undone w t n
undone_less n w t u v z a few h found due out s =
    count_less (λ x. not (in? w x && not (in? t x))) (λ x. not (in? v x && not (in? z x))) n a h
    (λ x k. still x (omega arith))
    (not_T (in? w a && not (in? t a)) (λ k. T_not (in? t a) (both→ (in? w a) (not (in? t a)) k).1 (is_in t a due)))
    (λ k. T_not (in? v a && not (in? z a)) k (done a (omega arith) found out.gone))
  where
    -- what is found, and no longer to be followed
    done : (x : ℕ) → x < 128 → Has w 0 x → (Has u 0 x → ⊥) → T (in? v x && not (in? z x))
    done x l f g =
        both (in? v x) (not (in? z x)) (is_in v x (s.keeps x l f))
        (not_T (in? z x) (λ k. ⊎_elim g (λ e. e f) (s.only x l (in_is z x k))))

    still : (x : ℕ) → x < 128 → T (not (in? v x && not (in? z x))) → T (not (in? w x && not (in? t x)))
    still x l k =
        not_T (in? w x && not (in? t x))
        (λ d.
        let p = both→ (in? w x) (not (in? t x)) d in
        T_not (in? v x && not (in? z x)) k
        (done x l (in_is w x p.0) (λ g. T_not (in? t x) p.1 (is_in t x (out.gives 0 x l g)))))

-- what a set of those that have a property lacks first is the first that has not
least_lack : (P : ℕ → Type 0) (w : List ℕ) (n r : ℕ) → n ≤ 128 → Members w n P → Least (λ a. Has w 0 a → ⊥) 0 n r → Least (λ a. P a → ⊥) 0 n r
least_lack P w n r few m h = record {
  low = h.low;
  from = h.from;
  here = λ l p. h.here l (m.whole r l p);
  none = λ z l k f. h.none z l k (λ g. f (m.sound z (let most = h.low in omega arith) g).1);
}

pub lack_if_any : (P : ℕ → Type 0) (w : List ℕ) (n : ℕ) (r : Option ℕ) → n ≤ 128 → Members w n P → LeastIfAny (λ a. Has w 0 a → ⊥) 0 n r
    → LeastIfAny (λ a. P a → ⊥) 0 n r
lack_if_any P w n (Some r) few m h = (h.0, least_lack P w n r few m h.1)
lack_if_any P w n None few m h = least_lack P w n n few m h

-- ── What is found stays right ───────────────────────────────────────────────
module _ (L : Listing) (n : ℕ) (few : n ≤ 128) (same : n ≡ length L) where
  -- the entries are found, and all of them are to be followed
  pub hunt_starts : (w u : List ℕ) → Members w n (IsEntry L) → Copied w 0 u → Hunt L n w u None
  hunt_starts w u m copied = record {
    sound = λ x h k. (let e = m.sound x h k in (e.0, (x, e.1, inl refl)));
    entries = λ r e p. m.whole e (let h = p.within in omega arith) (subst (λ (q : ℕ). EntryOf L q e) (sym p.own) p);
    due = λ x h k. sym (copied.same x h) ∙ k;
    here = λ a e. let z : ⊥ = cc in absurd z;
    closed = λ x y h k s. inr (inl (copied.same x (omega arith) ∙ k));
  }

  -- a is taken out of what is to be followed, to be followed now
  pub hunt_takes : (w t u : List ℕ) (a : ℕ) → a < n → Has t 0 a → Removed t u 0 a → Hunt L n w t None → Hunt L n w u (Some a)
  hunt_takes w t u a l due out g = record {
    sound = g.sound;
    entries = g.entries;
    due = λ x h k. g.due x h (out.gives 0 x h k);
    here = λ b e. let same : a ≡ b = cc in subst (λ (x : ℕ). (x < n) × Has w 0 x) same (l, g.due a (omega arith) due);
    closed = λ x y h k s. ⊎_elim inl (λ c. inr (⊎_elim (kept x h) (λ e. let z : ⊥ = cc in absurd z) c)) (g.closed x y h k s);
  }
    where
      kept : (x : ℕ) → x < n → Has t 0 x → Has u 0 x ⊎ (Some a ≡ Some x)
      kept x h k = go (ℕ_discrete a x)
        where
          go : Dec (a ≡ x) → Has u 0 x ⊎ (Some a ≡ Some x)
          go (yes e) = inr (ap Some e)
          go (no m) = inl (out.keeps 0 x (omega arith) (λ e. m (sym e.1)) k)

  -- nothing is to be followed any more
  pub hunt_ends : (w t : List ℕ) → Hunt L n w t None → ((z : ℕ) → z < n → Has t 0 z → ⊥) → Members w n (Entered L)
  hunt_ends w t g none = record { sound = g.sound; whole = λ a h e. reached a e }
    where
      on : (x y : ℕ) → Has w 0 x → Succ L x y → Has w 0 y
      on x y k s =
          let h : x < n = (let l = s.0 in omega arith) in
          ⊎_elim (λ f. f) (⊎_elim (λ d. absurd (none x h d)) (λ e. let z : ⊥ = cc in absurd z)) (g.closed x y h k s)

      along : (x : ℕ) (xs : List ℕ) (y : ℕ) → Has w 0 x → Row (Succ L) x xs y → Has w 0 y
      along x [] y k s = on x y k s
      along x (z ∷ zs) y k s = along z zs y (on x z k s.0) s.1

      reached : (a : ℕ) → Entered L a → Has w 0 a
      reached a (e, p, inl q) = subst (Has w 0) q (g.entries (node L a).routine e p)
      reached a (e, p, inr q) = along e q.0 a (g.entries (node L a).routine e p) q.1

  module _ (home : (x y : ℕ) → Succ L x y → (node L y).routine ≡ (node L x).routine) where
    -- ONE STEP OF A TRAIL: the second successor is left, the first is next
    pub hunt_on : (w t v u z : List ℕ) (a : ℕ) (r : Option ℕ) → Hunt L n w t (Some a) → Left n w t v u (node L a).second
        → Stepped n v z (node L a).first r → Hunt L n z u r
    hunt_on w t v u z a r g l p = record {
      sound = λ x k f. sound x k f;
      entries = λ q e m. p.keeps e (let i = m.within in omega arith) (l.keeps e (let i = m.within in omega arith) (g.entries q e m));
      due = λ x k f. p.keeps x k (due x k f);
      here = λ x s. let e = p.fresh x s in (omega (arith, e.0, e.1), subst (Has z 0) (sym e.0) (p.new e.1));
      closed = closed;
    }
      where
        h : a < n
        h = (g.here a refl).0

        entered : Entered L a
        entered = (g.sound a (omega (arith, h)) (g.here a refl).1).1

        -- a successor of a that is a node is entered
        next : (b : ℕ) → b < n → ((node L a).first ≡ b) ⊎ ((node L a).second ≡ b) → (b < n) × Entered L b
        next b k e = (let s : Succ L a b = (omega (arith, h), omega arith, e) in (k, entered_on L a b (home a b s) entered s))

        left : (x : ℕ) → x < 128 → Has v 0 x → (x < n) × Entered L x
        left x k f = ⊎_elim (g.sound x k) (λ e. next x (omega (arith, e.0, e.1)) (inr (sym e.0))) (l.found x k f)

        sound : (x : ℕ) → x < 128 → Has z 0 x → (x < n) × Entered L x
        sound x k f = ⊎_elim (left x k) (λ e. next x (omega (arith, e.0, e.1)) (inl (sym e.0))) (p.found x k f)

        due : (x : ℕ) → x < 128 → Has u 0 x → Has v 0 x
        due x k f =
            ⊎_elim (λ d. l.keeps x k (g.due x k d)) (λ e. subst (Has v 0) (sym e.0) (l.new e.1)) (l.waiting x k f)

        -- both successors of a are found now
        both_found : (y : ℕ) → Succ L a y → Has z 0 y
        both_found y (i, j, inl e) = subst (Has z 0) e (p.new (omega (arith, e, j)))
        both_found y (i, j, inr e) = subst (Has z 0) e (p.keeps (node L a).second (omega (arith, e, j)) (l.new (omega (arith, e, j))))

        old : (x y : ℕ) → x < n → Succ L x y → Has w 0 x → Has z 0 y ⊎ (Has u 0 x ⊎ (r ≡ Some x))
        old x y k s f =
            ⊎_elim (λ d. inl (p.keeps y (let j = s.1 in omega arith) (l.keeps y (let j = s.1 in omega arith) d)))
            (⊎_elim (λ d. inr (inl (l.stays x (omega arith) d))) (λ e. let same : x ≡ a = cc in inl (both_found y (subst (λ (i : ℕ). Succ L i y) same s))))
            (g.closed x y k f s)

        closed : (x y : ℕ) → x < n → Has z 0 x → Succ L x y → Has z 0 y ⊎ (Has u 0 x ⊎ (r ≡ Some x))
        closed x y k f s =
            ⊎_elim
            (λ d. ⊎_elim (old x y k s) (λ e. inr (inl e.2)) (l.found x (omega arith) d))
            (λ e. inr (inr (e.2 ∙ ap Some (sym e.0)))) (p.found x (omega arith) f)
