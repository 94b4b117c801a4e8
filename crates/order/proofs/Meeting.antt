-- Laws of meeting: it goes both ways, and among accesses it is that the locations overlap and both live.
use mathlib.Core.Path.{◌≡◌, refl, sym, subst}
use mathlib.Core.Logic.{◌⊎◌, inl, inr, ◌↔◌}
use mathlib.Core.List.{[], ◌∷◌}
use mathlib.Core.Bool.{Bool, true, false, not, cond, ◌&&◌, ◌||◌, and_comm}
use Prim.Native.Nat.{ℕ, zero, suc, ◌<◌}
use native.Mathlib.Omega.{arith}
use lib.Dec.{T, eqb, eqb→eq, eqb_refl}
use lib.ListN.{length}
use Rattle.listing.specs.Node.{Node, Listing, node}
use Rattle.order.specs.Rows.{some}
use Rattle.order.specs.Walks.{kind_at, loc_at, counts_read, is_writer, is_access, Access}
use Rattle.order.specs.Chains.{is_unknown, overlap, two_reads, written, MayMeet}
use Rattle.order.specs.Inner.Living.{Writer, Lives, known}
use Rattle.listing.proofs.Bools.{bool?, both, both→, one, one→, eq→eqb}
use Rattle.order.proofs.Laws.{access_in}

-- ── Locations ───────────────────────────────────────────────────────────────
overlap_sym : (x y : ℕ) → T (overlap x y) → T (overlap y x)
overlap_sym x y t = go (one→ (is_unknown x) (is_unknown y || eqb x y) t)
  where
    later : T (is_unknown y) ⊎ T (eqb x y) → T (overlap y x)
    later (inl u) = one (is_unknown y) _ (inl u)
    later (inr e) = one (is_unknown y) _ (inr (one (is_unknown x) _ (inr (eq→eqb y x (sym (eqb→eq x y e))))))

    go : T (is_unknown x) ⊎ T (is_unknown y || eqb x y) → T (overlap y x)
    go (inl u) = one (is_unknown y) _ (inr (one (is_unknown x) _ (inl u)))
    go (inr h) = later (one→ (is_unknown y) (eqb x y) h)

overlap_self : (x : ℕ) → T (overlap x x)
overlap_self x = one (is_unknown x) _ (inr (one (is_unknown x) _ (inr (eqb_refl x))))

-- what is unknown overlaps everything
overlap_unknown : (w x : ℕ) → T (is_unknown x) → T (overlap w x)
overlap_unknown w x u = one (is_unknown w) _ (inr (one (is_unknown x) _ (inl u)))

-- what overlaps a known location overlaps whatever that one overlaps
overlap_on : (w x y : ℕ) → is_unknown x ≡ false → T (overlap x y) → T (overlap w x) → T (overlap w y)
overlap_on w x y k t h = go (one→ (is_unknown y) (eqb x y) (subst (λ (b : Bool). T (b || (is_unknown y || eqb x y))) k t))
  where
    go : T (is_unknown y) ⊎ T (eqb x y) → T (overlap w y)
    go (inl u) = overlap_unknown w y u
    go (inr e) = subst (λ (z : ℕ). T (overlap w z)) (eqb→eq x y e) h

-- ── Writers ─────────────────────────────────────────────────────────────────
-- some entry of a listing is the node of some number
some_node : (t : Node → Bool) (L : Listing) → T (some t L) → (w : ℕ) × T (t (node L w))
some_node t [] h = absurd h
some_node t (n ∷ ns) h = go (one→ (t n) (some t ns) h) (λ s. some_node t ns s)
  where
    go : T (t n) ⊎ T (some t ns) → (T (some t ns) → (w : ℕ) × T (t (node ns w))) → (w : ℕ) × T (t (node (n ∷ ns) w))
    go (inl s) f = (0, s)
    go (inr s) f = let g = f s in (suc g.0, g.1)

node_some : (t : Node → Bool) (L : Listing) (w : ℕ) → w < length L → T (t (node L w)) → T (some t L)
node_some t [] w l h = absurd (omega arith)
node_some t (n ∷ ns) zero l h = one (t n) (some t ns) (inl h)
node_some t (n ∷ ns) (suc w) l h = one (t n) (some t ns) (inr (node_some t ns w (omega arith) h))

-- a writer is an access
pub writer_access : (k : ℕ) → T (is_writer k) → T (is_access k)
writer_access k t = one (counts_read k) (is_writer k) (inr t)

-- some writer may meet both who stand at x and who stand at y
abbrev HasWriter : Listing → ℕ → ℕ → Type 0
HasWriter L x y = (w : ℕ) × Writer L w × T (overlap (loc_at L w) x) × T (overlap (loc_at L w) y)

pub written_checked : (L : Listing) (x y : ℕ) → T (written L x y) ↔ HasWriter L x y
written_checked L x y = (
  λ t.
      let w = some_node test L t in
      let h = both→ (is_writer (kind_at L w.0)) (overlap (loc_at L w.0) x && overlap (loc_at L w.0) y) w.1 in
      let o = both→ (overlap (loc_at L w.0) x) (overlap (loc_at L w.0) y) h.1 in
      (w.0, h.0, o.0, o.1),
  λ m.
      let l = access_in L m.0 (writer_access (kind_at L m.0) m.1) in
      let o = both (overlap (loc_at L m.0) x) (overlap (loc_at L m.0) y) m.2 m.3 in
      node_some test L m.0 l (both (is_writer (kind_at L m.0)) _ m.1 o),
)
  where
    test : Node → Bool
    test w = is_writer w.kind && (overlap w.location x && overlap w.location y)

written_sym : (L : Listing) (x y : ℕ) → T (written L x y) → T (written L y x)
written_sym L x y t = let m = (written_checked L x y).0 t in (written_checked L y x).1 (m.0, m.1, m.3, m.2)

-- of two that overlap, one that writes may meet both
writers_write : (L : Listing) (a b : ℕ) → Writer L a ⊎ Writer L b → T (overlap (loc_at L a) (loc_at L b)) → T (written L (loc_at L a) (loc_at L b))
writers_write L a b (inl h) o = (written_checked L (loc_at L a) (loc_at L b)).1 (a, h, overlap_self (loc_at L a), o)
writers_write L a b (inr h) o = (written_checked L (loc_at L a) (loc_at L b)).1 (b, h, overlap_sym (loc_at L a) (loc_at L b) o, overlap_self (loc_at L b))

-- ── Meeting ─────────────────────────────────────────────────────────────────
-- it goes both ways
pub meets_sym : (L : Listing) (a b : ℕ) → MayMeet L a b → MayMeet L b a
meets_sym L a b t =
    let h = both→ (overlap (loc_at L a) (loc_at L b)) _ t in
    both (overlap (loc_at L b) (loc_at L a)) _ (overlap_sym (loc_at L a) (loc_at L b) h.0)
    (one (not (two_reads L b a)) _ (turned (one→ (not (two_reads L a b)) (written L (loc_at L a) (loc_at L b)) h.1)))
  where
    turned : T (not (two_reads L a b)) ⊎ T (written L (loc_at L a) (loc_at L b)) → T (not (two_reads L b a)) ⊎ T (written L (loc_at L b) (loc_at L a))
    turned (inl n) = inl (subst (λ (r : Bool). T (not r)) (and_comm (counts_read (kind_at L a)) (counts_read (kind_at L b))) n)
    turned (inr w) = inr (written_sym L (loc_at L a) (loc_at L b) w)

-- an access that is no read is a writer
writer_of : (k : ℕ) → T (is_access k) → counts_read k ≡ false → T (is_writer k)
writer_of k t e = subst (λ (b : Bool). T (b || is_writer k)) e t

module _ (L : Listing) (a b : ℕ) where
  abbrev x : ℕ
  x = loc_at L a

  abbrev y : ℕ
  y = loc_at L b

  -- accesses meet exactly if they overlap and a writer may meet both: where either writes, it is the one
  pub meets_written : Access L a → Access L b → MayMeet L a b ↔ (T (overlap x y) × T (written L x y))
  meets_written s t = (
    λ m. let h = both→ (overlap x y) (not (two_reads L a b) || written L x y) m in (h.0, of h.0 (one→ (not (two_reads L a b)) (written L x y) h.1)),
    λ h. both (overlap x y) (not (two_reads L a b) || written L x y) h.0 (one (not (two_reads L a b)) (written L x y) (inr h.1)),
  )
    where
      lacks : (p q : Bool) → T (not (p && q)) → (p ≡ false) ⊎ (q ≡ false)
      lacks true true n = absurd n
      lacks true false n = inr refl
      lacks false q n = inl refl

      either : (counts_read (kind_at L a) ≡ false) ⊎ (counts_read (kind_at L b) ≡ false) → Writer L a ⊎ Writer L b
      either (inl e) = inl (writer_of (kind_at L a) s e)
      either (inr e) = inr (writer_of (kind_at L b) t e)

      of : T (overlap x y) → T (not (two_reads L a b)) ⊎ T (written L x y) → T (written L x y)
      of o (inl n) = writers_write L a b (either (lacks (counts_read (kind_at L a)) (counts_read (kind_at L b)) n)) o
      of o (inr w) = w

-- where either access is a write or RMW, the locations alone decide
pub meets_writer : (L : Listing) (a b : ℕ) → Access L a → Access L b → Writer L a ⊎ Writer L b → MayMeet L a b ↔ T (overlap (loc_at L a) (loc_at L b))
meets_writer L a b s t w = (λ m. ((meets_written L a b s t).0 m).0, λ o. (meets_written L a b s t).1 (o, writers_write L a b w o))

-- ── Living ──────────────────────────────────────────────────────────────────
-- where two locations overlap, who may meet both is who may meet the known one
pub written_known : (L : Listing) (x y : ℕ) → T (overlap x y) → T (written L x y) ↔ Lives L (known x y)
written_known L x y o = (
  λ t. let m = (written_checked L x y).0 t in (m.0, m.1, one_of (loc_at L m.0) (is_unknown x) m.2 m.3),
  λ h. let m = both_of (loc_at L h.0) h.2 in (written_checked L x y).1 (h.0, h.1, m.0, m.1),
)
  where
    one_of : (w : ℕ) (u : Bool) → T (overlap w x) → T (overlap w y) → T (overlap w (cond u y x))
    one_of w true s t = t
    one_of w false s t = s

    go : (w : ℕ) → (is_unknown x ≡ true) ⊎ (is_unknown x ≡ false) → T (overlap w (known x y)) → T (overlap w x) × T (overlap w y)
    go w (inl u) t = (overlap_unknown w x (subst T (sym u) tt), subst (λ (b : Bool). T (overlap w (cond b y x))) u t)
    go w (inr k) t = let s = subst (λ (b : Bool). T (overlap w (cond b y x))) k t in (s, overlap_on w x y k o s)

    both_of : (w : ℕ) → T (overlap w (known x y)) → T (overlap w x) × T (overlap w y)
    both_of w t = go w (bool? (is_unknown x)) t

-- where both are unknown, any writer will do
pub lives_unknown : (L : Listing) → Lives L 0 ↔ ((w : ℕ) × Writer L w)
lives_unknown L = (λ h. (h.0, h.1), λ h. (h.0, h.1, overlap_unknown (loc_at L h.0) 0 tt))

-- TWO OVERLAPPING ACCESSES MEET EXACTLY IF THE KNOWN ONE OF THEIR LOCATIONS LIVES
pub meets_known : (L : Listing) (a b : ℕ) → Access L a → Access L b → T (overlap (loc_at L a) (loc_at L b))
    → MayMeet L a b ↔ Lives L (known (loc_at L a) (loc_at L b))
meets_known L a b s t o =
    let m = meets_written L a b s t in
    let k = written_known L (loc_at L a) (loc_at L b) o in
    (λ h. k.0 (m.0 h).1, λ h. m.1 (o, k.1 h))

-- AND THAT IS: EXACTLY IF BOTH LIVE
pub meets_lives : (L : Listing) (a b : ℕ) → Access L a → Access L b
    → MayMeet L a b ↔ (T (overlap (loc_at L a) (loc_at L b)) × Lives L (loc_at L a) × Lives L (loc_at L b))
meets_lives L a b s t = (
  λ m.
      let h = (meets_written L a b s t).0 m in
      let w = (written_checked L (loc_at L a) (loc_at L b)).0 h.1 in
      (h.0, (w.0, w.1, w.2), (w.0, w.1, w.3)),
  λ h. (meets_known L a b s t h.0).1 (one_of (is_unknown (loc_at L a)) h.1 h.2),
)
  where
    one_of : (u : Bool) → Lives L (loc_at L a) → Lives L (loc_at L b) → Lives L (cond u (loc_at L b) (loc_at L a))
    one_of true f g = g
    one_of false f g = f
