-- A listing M is the listing L with its nodes renamed, as far as order is concerned: then their chains correspond.
use mathlib.Core.Path.{◌≡◌, sym, ap, ap₂, ◌∙◌, subst, subst₂}
use mathlib.Core.Logic.{◌↔◌}
use mathlib.Core.List.{List, ◌∷◌, map, map-id}
use Prim.Native.Nat.{ℕ}
use lib.Dec.{T}
use Rattle.listing.specs.Node.{Listing}
use Rattle.order.specs.Rows.{All}
use Rattle.order.specs.Walks.{kind_at, loc_at, counts_rmw, is_writer, is_access, Access, Walk}
use Rattle.order.specs.Chains.{overlap, written, MayMeet, surely, SurelyMeet, Ends, IsPair, Joined, Chain}
use Rattle.order.specs.Need.{question, Entry, need, leave, leave_unless_rmw, entry, RmwInside, Says, Needs, bars, Unbarred}
use Rattle.order.proofs.Laws.{bars_fence, bars_plain}
use Rattle.order.proofs.Meeting.{writer_access, written_checked, meets_written}
use Rattle.order.proofs.Mapped.{all_mapped, all_from, mapped_different, different_mapped, row_mapped}
use Rattle.order.proofs.Inside.{Inside, inside_some, inside_no}

-- f renames the nodes; a walk of L from a with xs inside is open if `Open a xs`, else M has a fence more inside
pub record Renamed (f : ℕ → ℕ) (Open : ℕ → List ℕ → Type 0) (L M : Listing) : Type 0 where
  -- accesses keep kind and location
  pub kind : (a : ℕ) → Access L a → kind_at M (f a) ≡ kind_at L a
  pub location : (a : ℕ) → Access L a → loc_at M (f a) ≡ loc_at L a
  -- and stay different
  pub different : (a b : ℕ) → Access L a → Access L b → f a ≡ f b → a ≡ b
  -- every access of M is a renamed one
  pub hit : (x : ℕ) → Access M x → (a : ℕ) × (f a ≡ x) × Access L a
  -- walks between accesses correspond
  pub there : (a b : ℕ) → Access L a → Access L b → (xs : List ℕ) → Walk L a xs b
      → (ys : List ℕ) × Walk M (f a) ys (f b) × Inside L M xs ys (Open a xs)
  pub back : (a b : ℕ) → Access L a → Access L b → (ys : List ℕ) → Walk M (f a) ys (f b)
      → (xs : List ℕ) × Walk L a xs b × Inside L M xs ys (Open a xs)

-- the ends of a pair, renamed
abbrev pub rename : (ℕ → ℕ) → Ends → Ends
rename f p = (f p.0, f p.1)

says_same : {X Y : Type 0} (e : Entry) → X ↔ Y → Says e X ↔ Says e Y
says_same need h = (λ s. s, λ s. s)
says_same leave h = (λ s. s, λ s. s)
says_same leave_unless_rmw h = h

module _ {f : ℕ → ℕ} {Open : ℕ → List ℕ → Type 0} {L M : Listing} (r : Renamed f Open L M) where
  access_there : (a : ℕ) → Access L a → Access M (f a)
  access_there a t = subst (λ (k : ℕ). T (is_access k)) (sym (r.kind a t)) t

  -- writers are accesses, and so every one is there and no other
  written_same : (x y : ℕ) → T (written L x y) ↔ T (written M x y)
  written_same x y =
      let l = written_checked L x y in
      let m = written_checked M x y in (
        λ h.
            let w = l.0 h in
            let t = writer_access (kind_at L w.0) w.1 in
            let o = subst (λ (z : ℕ). T (overlap z x) × T (overlap z y)) (sym (r.location w.0 t)) (w.2, w.3) in
            m.1 (f w.0, subst (λ (k : ℕ). T (is_writer k)) (sym (r.kind w.0 t)) w.1, o.0, o.1),
        λ h.
            let w = m.0 h in
            let v = r.hit w.0 (writer_access (kind_at M w.0) w.1) in
            let k = ap (kind_at M) (sym v.1) ∙ r.kind v.0 v.2 in
            let e = ap (loc_at M) (sym v.1) ∙ r.location v.0 v.2 in
            let o = subst (λ (z : ℕ). T (overlap z x) × T (overlap z y)) e (w.2, w.3) in
            l.1 (v.0, subst (λ (k : ℕ). T (is_writer k)) k w.1, o.0, o.1),
      )

  -- ── Two accesses ────────────────────────────────────────────────────────────
  module _ (a b : ℕ) (s : Access L a) (t : Access L b) where
    pub meets_same : MayMeet L a b ↔ MayMeet M (f a) (f b)
    meets_same =
        let both : ℕ → ℕ → Type 0 = λ x y. T (overlap x y) × T (written M x y) in
        let m = meets_written L a b s t in
        let n = meets_written M (f a) (f b) (access_there a s) (access_there b t) in
        let w = written_same (loc_at L a) (loc_at L b) in (
          λ h. let g = m.0 h in n.1 (subst₂ both (sym (r.location a s)) (sym (r.location b t)) (g.0, w.0 g.1)),
          λ h. let g = subst₂ both (r.location a s) (r.location b t) (n.0 h) in m.1 (g.0, w.1 g.1),
        )

    pub surely_same : SurelyMeet L a b ↔ SurelyMeet M (f a) (f b)
    surely_same = let e = ap₂ surely (r.location a s) (r.location b t) in (subst T (sym e), subst T e)

    rmw_same : RmwInside L a b ↔ RmwInside M (f a) (f b)
    rmw_same = (
      λ h.
          let w = r.there a b s t h.0 h.2 in
          let d = (inside_some w.2 (λ k. T (counts_rmw k)) (λ p. p) (λ p. p)).0 (h.1, h.3, h.4) in
          (w.0, d.0, w.1, d.1, d.2),
      λ h.
          let w = r.back a b s t h.0 h.2 in
          let c = (inside_some w.2 (λ k. T (counts_rmw k)) (λ p. p) (λ p. p)).1 (h.1, h.3, h.4) in
          (w.0, c.0, w.1, c.1, c.2),
    )

    pub needs_same : (q : ℕ) → Needs q L a b ↔ Needs q M (f a) (f b)
    needs_same q =
        subst₂ (λ (j k : ℕ). Needs q L a b ↔ Says (entry (question q) j k) (RmwInside M (f a) (f b))) (sym (r.kind a s)) (sym (r.kind b t))
        (says_same (entry (question q) (kind_at L a) (kind_at L b)) rmw_same)

    pub unbarred_same : (q : ℕ) (xs ys : List ℕ) → Inside L M xs ys (Open a xs) → (Unbarred q L a b xs × Open a xs) ↔ Unbarred q M (f a) (f b) ys
    unbarred_same q xs ys i =
        subst₂ (λ (j k : ℕ). (Unbarred q L a b xs × Open a xs) ↔ All (λ d. T (bars (question q) j k (kind_at M d)) → ⊥) ys)
        (sym (r.kind a s)) (sym (r.kind b t))
        (inside_no i (λ k. T (bars (question q) (kind_at L a) (kind_at L b) k))
        (bars_plain (question q) (kind_at L a) (kind_at L b)) (bars_fence (question q) (kind_at L a) (kind_at L b)))

  -- ── Pairs and chains ────────────────────────────────────────────────────────
  pair_there : (p : Ends) → IsPair L p → IsPair M (rename f p)
  pair_there p h =
      let w = r.there p.0 p.1 h.from h.to h.walk.0 h.walk.1 in
      record { from = access_there p.0 h.from; to = access_there p.1 h.to; walk = (w.0, w.1) }

  pub pair_back : (x : Ends) → IsPair M x → (p : Ends) × (rename f p ≡ x) × IsPair L p
  pair_back x h =
      let a = r.hit x.0 h.from in
      let b = r.hit x.1 h.to in
      let v = subst₂ (λ (i j : ℕ). Walk M i h.walk.0 j) (sym a.1) (sym b.1) h.walk.1 in
      let w = r.back a.0 b.0 a.2 b.2 h.walk.0 v in
      ((a.0, b.0), ap₂ {C = Ends} (λ i j. (i, j)) a.1 b.1, record { from = a.2; to = b.2; walk = (w.0, w.1) })

  ends_apart : (x y : Ends) → IsPair L x → IsPair L y → rename f x ≡ rename f y → x ≡ y
  ends_apart x y h k e =
      ap₂ {C = Ends} (λ i j. (i, j))
      (r.different x.0 y.0 h.from k.from (ap (λ (z : Ends). z.0) e)) (r.different x.1 y.1 h.to k.to (ap (λ (z : Ends). z.1) e))

  joined_same : (x y : Ends) → IsPair L x → IsPair L y → Joined L x y ↔ Joined M (rename f x) (rename f y)
  joined_same x y h k = meets_same x.1 y.0 h.to k.from

  chain_same : (p : Ends) (rest : List Ends) → All (IsPair L) (p ∷ rest) → Chain L p rest ↔ Chain M (rename f p) (map (rename f) rest)
  chain_same p rest h =
      let joined = row_mapped (rename f) (IsPair L) (Joined L) (Joined M) joined_same p rest p h.0 h.1 h.0 in (
        λ c. record {
          pairs = all_mapped (rename f) (IsPair L) (IsPair M) pair_there (p ∷ rest) h;
          different = different_mapped (rename f) (IsPair L) ends_apart (p ∷ rest) h c.different;
          closed = joined.0 c.closed;
        },
        λ c. record {
          pairs = h;
          different = mapped_different (rename f) (p ∷ rest) c.different;
          closed = joined.1 c.closed;
        },
      )

  -- CHAINS CORRESPOND
  pub chain_there : (p : Ends) (rest : List Ends) → Chain L p rest → Chain M (rename f p) (map (rename f) rest)
  chain_there p rest c = (chain_same p rest c.pairs).0 c

  pub chain_back : (p : Ends) → IsPair L p → (xs : List Ends) → Chain M (rename f p) xs → (rest : List Ends) × (map (rename f) rest ≡ xs) × Chain L p rest
  chain_back p h xs c =
      let k = all_from (rename f) (IsPair L) (IsPair M) pair_back xs c.pairs.1 in
      (k.0, k.1, (chain_same p k.0 (h, k.2)).1 (subst (Chain M (rename f p)) (sym k.1) c))

-- with every number kept, they are the same
pub chain_kept : {Open : ℕ → List ℕ → Type 0} {L M : Listing} → Renamed (λ a. a) Open L M → (p : Ends) (rest : List Ends) → Chain L p rest ↔ Chain M p rest
chain_kept {Open} {L} {M} r p rest = (
  λ c. subst (Chain M p) (map-id rest) (chain_there r p rest c),
  λ c.
      let h = pair_back r p c.pairs.0 in
      let k = chain_back r p (subst (IsPair L) h.1 h.2) rest c in
      subst (Chain L p) (sym (map-id k.0) ∙ k.1) k.2,
)
