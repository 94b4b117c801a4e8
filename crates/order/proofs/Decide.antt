-- Failing pairs are decided by computation: the test passes exactly if the pair fails.
use mathlib.Core.Path.{◌≡◌, refl, subst}
use mathlib.Core.Logic.{◌↔◌, inl, inr}
use mathlib.Core.List.{List, [], ◌∷◌, ◌++◌}
use mathlib.Core.Bool.{Bool, true, false, not, ◌&&◌, ◌||◌}
use Prim.Native.Nat.{ℕ, ◌<◌}
use native.Mathlib.Decide.{ℕ_discrete}
use lib.Dec.{T, eqb, ltb, eqb→eq, eqb_refl, T_not, not_T}
use lib.ListN.{length}
use Rattle.listing.specs.Node.{Listing, node}
use Rattle.order.specs.Rows.{All, In, some}
use Rattle.order.specs.Walks.{kind_at, loc_at, is_access, counts_rmw, Access, Next, Succ, Walk}
use Rattle.order.specs.Chains.{meets, surely, Ends, IsPair, Chain}
use Rattle.order.specs.Need.{question, Entry, need, leave, leave_unless_rmw, entry, RmwInside, Says, Needs, bars, Unbarred}
use Rattle.order.specs.Verdict.{Fails}
use Rattle.listing.proofs.Bools.{both, both→}
use Rattle.order.proofs.Lists.{all_in, in_all, in_left, in_right, Cut, cut, row_join, row_before, row_after, row_map}
use Rattle.order.proofs.Lists.{keep, in_keep, keep_in, some_in, in_some, upto, in_upto}
use Rattle.order.proofs.Tests.{eqb_checked, ltb_checked, both_checked, one_checked, decided}
use Rattle.order.proofs.Laws.{ends_eq, access_in, walk_in}
use Rattle.order.proofs.Rounds.{shorten}
use Rattle.order.proofs.Search.{hits, Good, hits_sound, hits_complete}

-- ── All pairs of nodes ──────────────────────────────────────────────────────

abbrev pub ends_of : ℕ → List ℕ → List Ends
ends_of x [] = []
ends_of x (y ∷ ys) = (x, y) ∷ ends_of x ys

abbrev pub cross : List ℕ → List ℕ → List Ends
cross [] ys = []
cross (x ∷ xs) ys = ends_of x ys ++ cross xs ys

in_ends : (x : ℕ) (ys : List ℕ) (p : Ends) → p.0 ≡ x → In p.1 ys → In p (ends_of x ys)
in_ends x [] p e i = i
in_ends x (y ∷ ys) p e (inl f) = inl (λ i. (e i, f i))
in_ends x (y ∷ ys) p e (inr i) = inr (in_ends x ys p e i)

in_cross : (xs ys : List ℕ) (p : Ends) → In p.0 xs → In p.1 ys → In p (cross xs ys)
in_cross [] ys p i j = i
in_cross (x ∷ xs) ys p (inl e) j = in_left (ends_of x ys) (cross xs ys) p (in_ends x ys p e j)
in_cross (x ∷ xs) ys p (inr i) j = in_right (ends_of x ys) (cross xs ys) p (in_cross xs ys p i j)

abbrev pub all_ends : Listing → List Ends
all_ends L = cross (upto (length L)) (upto (length L))

pub ends_listed : (L : Listing) (p : Ends) → Access L p.0 → Access L p.1 → In p (all_ends L)
ends_listed L p s t =
    let n = length L in
    in_cross (upto n) (upto n) p (in_upto n p.0 (access_in L p.0 s)) (in_upto n p.1 (access_in L p.1 t))

-- ── Walks ───────────────────────────────────────────────────────────────────
abbrev pub succ? : Listing → ℕ → ℕ → Bool
succ? L a b = ltb a (length L) && (ltb b (length L) && (eqb (node L a).first b || eqb (node L a).second b))

succ_checked : (L : Listing) (a b : ℕ) → T (succ? L a b) ↔ Succ L a b
succ_checked L a b = (λ t. let h = parts.0 t in (h.0, h.1.0, h.1.1), λ s. parts.1 (s.0, (s.1, s.2)))
  where
    parts : T (succ? L a b) ↔ ((a < length L) × ((b < length L) × Next (node L a) b))
    parts =
        both_checked (ltb a (length L)) _ (ltb_checked a (length L))
        (both_checked (ltb b (length L)) _ (ltb_checked b (length L))
        (one_checked (eqb (node L a).first b) _ (eqb_checked (node L a).first b) (eqb_checked (node L a).second b)))

-- some walk from a to b has only `ok` nodes inside
abbrev pub walk? : Listing → (ℕ → Bool) → ℕ → ℕ → Bool
walk? L ok a b = hits (upto (length L)) ok (succ? L) (length (upto (length L))) a b

pub walk_sound : (L : Listing) (ok : ℕ → Bool) (a b : ℕ) → T (walk? L ok a b) → (xs : List ℕ) × Walk L a xs b × All (λ x. T (ok x)) xs
walk_sound L ok a b t =
    let f = hits_sound (upto (length L)) ok (succ? L) (length (upto (length L))) a b t in (
      f.0,
      row_map (λ x y. T (succ? L x y)) (Succ L) (λ x y. (succ_checked L x y).0) a f.0 b f.1,
      in_all (λ x. T (ok x)) f.0 (λ x i. (all_in (Good (upto (length L)) ok (succ? L)) f.0 f.2 x i).1),
    )

pub walk_complete : (L : Listing) (ok : ℕ → Bool) (a b : ℕ) (xs : List ℕ) → Walk L a xs b → All (λ x. T (ok x)) xs → T (walk? L ok a b)
walk_complete L ok a b xs w g =
    hits_complete (upto (length L)) ok (succ? L) ℕ_discrete a b xs (row_map (Succ L) (λ x y. T (succ? L x y)) (λ x y. (succ_checked L x y).1) a xs b w)
    (in_all (Good (upto (length L)) ok (succ? L)) xs (λ x i. (in_upto (length L) x (walk_in L a xs b w x (inr i)), all_in (λ x. T (ok x)) xs g x i)))

abbrev pub any? : {A : Type 0} → A → Bool
any? x = true

pub any_all : (xs : List ℕ) → All (λ x. T (any? x)) xs
any_all xs = in_all (λ x. T (any? x)) xs (λ x i. tt)

-- ── Pairs ───────────────────────────────────────────────────────────────────
abbrev pub pair? : Listing → Ends → Bool
pair? L p = is_access (kind_at L p.0) && (is_access (kind_at L p.1) && walk? L any? p.0 p.1)

pub pair_sound : (L : Listing) (p : Ends) → T (pair? L p) → IsPair L p
pair_sound L p t =
    let x = both→ (is_access (kind_at L p.0)) (is_access (kind_at L p.1) && walk? L any? p.0 p.1) t in
    let y = both→ (is_access (kind_at L p.1)) (walk? L any? p.0 p.1) x.1 in
    let w = walk_sound L any? p.0 p.1 y.1 in
    record { from = x.0; to = y.0; walk = (w.0, w.1) }

pub pair_complete : (L : Listing) (p : Ends) → IsPair L p → T (pair? L p)
pair_complete L p h =
    let w = walk_complete L any? p.0 p.1 h.walk.0 h.walk.1 (any_all h.walk.0) in
    both (is_access (kind_at L p.0)) (is_access (kind_at L p.1) && walk? L any? p.0 p.1) h.from
    (both (is_access (kind_at L p.1)) (walk? L any? p.0 p.1) h.to w)

abbrev pub pairs : Listing → List Ends
pairs L = keep (pair? L) (all_ends L)

pub pair_listed : (L : Listing) (p : Ends) → IsPair L p → In p (pairs L)
pair_listed L p h = in_keep (pair? L) (all_ends L) p (ends_listed L p h.from h.to) (pair_complete L p h)

pub listed_pair : (L : Listing) (p : Ends) → In p (pairs L) → IsPair L p
listed_pair L p i = pair_sound L p (keep_in (pair? L) (all_ends L) p i).1

-- ── Need ────────────────────────────────────────────────────────────────────
abbrev pub rmw? : Listing → ℕ → ℕ → Bool
rmw? L a b = some (λ c. counts_rmw (kind_at L c) && (walk? L any? a c && walk? L any? c b)) (upto (length L))

rmw_sound : (L : Listing) (a b : ℕ) → T (rmw? L a b) → RmwInside L a b
rmw_sound L a b t =
    let s = some_in (λ c. counts_rmw (kind_at L c) && (walk? L any? a c && walk? L any? c b)) (upto (length L)) t in
    let x = both→ (counts_rmw (kind_at L s.0)) (walk? L any? a s.0 && walk? L any? s.0 b) s.2 in
    let y = both→ (walk? L any? a s.0) (walk? L any? s.0 b) x.1 in
    let v = walk_sound L any? a s.0 y.0 in
    let w = walk_sound L any? s.0 b y.1 in
    (v.0 ++ (s.0 ∷ w.0), s.0, row_join (Succ L) a v.0 s.0 w.0 b v.1 w.1, in_right v.0 (s.0 ∷ w.0) s.0 (inl refl), x.0)

rmw_complete : (L : Listing) (a b : ℕ) → RmwInside L a b → T (rmw? L a b)
rmw_complete L a b r = in_some (λ c. counts_rmw (kind_at L c) && (walk? L any? a c && walk? L any? c b)) (upto (length L)) r.1
    (in_upto (length L) r.1 (walk_in L a r.0 b r.2 r.1 (inr r.3)))
    (both (counts_rmw (kind_at L r.1)) (walk? L any? a r.1 && walk? L any? r.1 b) r.4
    (both (walk? L any? a r.1) (walk? L any? r.1 b)
    (walk_complete L any? a r.1 c.0 (row_before (Succ L) a c.0 r.1 c.1 b w) (any_all c.0))
    (walk_complete L any? r.1 b c.1 (row_after (Succ L) a c.0 r.1 c.1 b w) (any_all c.1))))
  where
    c : Cut r.0 r.1
    c = cut r.0 r.1 r.3

    w : Walk L a (c.0 ++ (r.1 ∷ c.1)) b
    w = subst (λ (l : List ℕ). Walk L a l b) c.2 r.2

abbrev pub says? : Entry → Bool → Bool
says? need b = true
says? leave b = false
says? leave_unless_rmw b = b

says_checked : {X : Type 0} (e : Entry) (b : Bool) → T b ↔ X → T (says? e b) ↔ Says e X
says_checked need b f = (λ t. t, λ t. t)
says_checked leave b f = (λ t. t, λ t. t)
says_checked leave_unless_rmw b f = f

abbrev pub needs? : ℕ → Listing → ℕ → ℕ → Bool
needs? q L a b = says? (entry (question q) (kind_at L a) (kind_at L b)) (rmw? L a b)

needs_checked : (q : ℕ) (L : Listing) (a b : ℕ) → T (needs? q L a b) ↔ Needs q L a b
needs_checked q L a b = says_checked (entry (question q) (kind_at L a) (kind_at L b)) (rmw? L a b) (rmw_sound L a b, rmw_complete L a b)

-- ── Chains ──────────────────────────────────────────────────────────────────
abbrev pub same? : Ends → Ends → Bool
same? p x = eqb p.0 x.0 && eqb p.1 x.1

pub same_sound : (p x : Ends) → T (same? p x) → p ≡ x
same_sound p x t =
    let h = both→ (eqb p.0 x.0) (eqb p.1 x.1) t in
    let e = eqb→eq p.0 x.0 h.0 in
    let f = eqb→eq p.1 x.1 h.1 in
    λ i. (e i, f i)

pub same_refl : (p : Ends) → T (same? p p)
same_refl p = both (eqb p.0 p.0) (eqb p.1 p.1) (eqb_refl p.0) (eqb_refl p.1)

abbrev pub joined? : Listing → Ends → Ends → Bool
joined? L p x = meets L p.1 x.0

-- a closed row through p
abbrev pub chain? : Listing → Ends → Bool
chain? L p = hits (pairs L) any? (joined? L) (length (pairs L)) p p

chain_sound : (L : Listing) (p : Ends) → IsPair L p → T (chain? L p) → (rest : List Ends) × Chain L p rest
chain_sound L p h t =
    let f = hits_sound (pairs L) any? (joined? L) (length (pairs L)) p p t in
    let pairs_of = in_all (IsPair L) f.0 (λ x i. listed_pair L x (all_in (Good (pairs L) any? (joined? L)) f.0 f.2 x i).0) in
    let c = shorten L p f.0 (record { pairs = (h, pairs_of); closed = f.1 }) in
    (c.0, c.1)

chain_complete : (L : Listing) (p : Ends) (rest : List Ends) → Chain L p rest → T (chain? L p)
chain_complete L p rest c =
    hits_complete (pairs L) any? (joined? L) ends_eq p p rest c.closed
    (in_all (Good (pairs L) any? (joined? L)) rest (λ x i. (pair_listed L x (all_in (IsPair L) rest c.pairs.1 x i), tt)))

-- ── Failing pairs ───────────────────────────────────────────────────────────
abbrev pub free? : ℕ → Listing → ℕ → ℕ → ℕ → Bool
free? q L a b c = not (bars (question q) (kind_at L a) (kind_at L b) (kind_at L c))

abbrev pub unbarred? : ℕ → Listing → ℕ → ℕ → Bool
unbarred? q L a b = walk? L (free? q L a b) a b

module _ (q : ℕ) (L : Listing) (a b : ℕ) where
  free_checked : (xs : List ℕ) → All (λ c. T (free? q L a b c)) xs ↔ Unbarred q L a b xs
  free_checked [] = (λ h. h, λ h. h)
  free_checked (c ∷ xs) =
      let t = bars (question q) (kind_at L a) (kind_at L b) (kind_at L c) in
      let i = free_checked xs in
      (λ h. (T_not t h.0, i.0 h.1), λ h. (not_T t h.0, i.1 h.1))

  unbarred_checked : T (unbarred? q L a b) ↔ ((xs : List ℕ) × Walk L a xs b × Unbarred q L a b xs)
  unbarred_checked = (
    λ t. let w = walk_sound L (free? q L a b) a b t in (w.0, w.1, (free_checked w.0).0 w.2),
    λ w. walk_complete L (free? q L a b) a b w.0 w.1 ((free_checked w.0).1 w.2),
  )

abbrev pub fails? : ℕ → Listing → Ends → Bool
fails? q L p = pair? L p && (needs? q L p.0 p.1 && (not (surely (loc_at L p.0) (loc_at L p.1)) && (unbarred? q L p.0 p.1 && chain? L p)))

module _ (q : ℕ) (L : Listing) (p : Ends) where
  abbrev a : ℕ
  a = p.0

  abbrev b : ℕ
  b = p.1

  abbrev c₄ : Bool
  c₄ = unbarred? q L p.0 p.1 && chain? L p

  abbrev c₃ : Bool
  c₃ = not (surely (loc_at L p.0) (loc_at L p.1)) && c₄

  abbrev c₂ : Bool
  c₂ = needs? q L p.0 p.1 && c₃

  pub fails_sound : T (fails? q L p) → Fails q L p.0 p.1
  fails_sound t =
      let t₁ = both→ (pair? L p) c₂ t in
      let t₂ = both→ (needs? q L a b) c₃ t₁.1 in
      let t₃ = both→ (not (surely (loc_at L a) (loc_at L b))) c₄ t₂.1 in
      let t₄ = both→ (unbarred? q L a b) (chain? L p) t₃.1 in
      record {
        chain = chain_sound L p (pair_sound L p t₁.0) t₄.1;
        needs = (needs_checked q L a b).0 t₂.0;
        apart = T_not (surely (loc_at L a) (loc_at L b)) t₃.0;
        unbarred = (unbarred_checked q L a b).0 t₄.0;
      }

  pub fails_complete : Fails q L p.0 p.1 → T (fails? q L p)
  fails_complete f =
      both (pair? L p) c₂ (pair_complete L p f.chain.1.pairs.0)
      (both (needs? q L a b) c₃ ((needs_checked q L a b).1 f.needs)
      (both (not (surely (loc_at L a) (loc_at L b))) c₄ (not_T (surely (loc_at L a) (loc_at L b)) f.apart)
      (both (unbarred? q L a b) (chain? L p) ((unbarred_checked q L a b).1 f.unbarred) (chain_complete L p f.chain.0 f.chain.1))))

-- FAILING IS DECIDED
pub failing? : (q : ℕ) (L : Listing) (a b : ℕ) → Dec (Fails q L a b)
failing? q L a b = decided (fails? q L (a, b)) (fails_sound q L (a, b), fails_complete q L (a, b))
