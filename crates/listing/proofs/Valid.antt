-- The form, said of nodes: the nodes of a listing of right form are valid, and the bytes of valid nodes are of right form.
use mathlib.Core.Path.{◌≡◌, refl, sym, ap, ◌∙◌, subst}
use mathlib.Core.Logic.{◌≢◌, ◌⊎◌, inl, inr}
use mathlib.Core.Bool.{Bool, true, false, not, ◌&&◌, ◌||◌}
use mathlib.Core.List.{List}
use Prim.Native.Nat.{ℕ, ◌≤◌, ◌<◌}
use native.Mathlib.Omega.{arith}
use lib.ListN.{length}
use lib.Dec.{T, eqb, ltb, leb}
use borrow.Author.Tests.{ltb-true, leb-false, eqb-true, eqb-false, not-false, lt-ltb, lt-leb, eq-eqb, ne_eqb}
use Rattle.listing.specs.Limits.{ROUTINES, NODES}
use Rattle.listing.specs.Kinds.{is_version, kinds_of, has_no_location}
use Rattle.listing.specs.Node.{Node, none, Listing, node}
use Rattle.listing.specs.Bytes.{version_of, count_f, count_n, node_at, nodes_of, bytes_of}
use Rattle.listing.specs.Rules.{NoneApplies}
use Rattle.listing.specs.Form.{wrong_routine, wrong_kind, wrong_location, astray, wrong_successor, wrong_order, node_rules, Formed}
use Rattle.listing.specs.Valid.{Headed, Goes, NodeOk, Valid}
use Rattle.listing.proofs.Nodes.{nodes_length, nodes_at_lem}
use Rattle.listing.proofs.Bools.{bool?, or_neither, neither_or, and_lacks, lacks_and, yes_holds, no_fails}
use Rattle.listing.proofs.Rows.{rows_clear, clear_rows}
use Rattle.listing.proofs.Headed.{headed_clear}
use Rattle.listing.proofs.RoundTrip.{bytes_length, read_version, read_count_f, read_written}

-- 10
location_right : (k l : ℕ) → (has_no_location k && not (eqb l 0)) ≡ false → T (has_no_location k) → l ≡ 0
location_right k l e t = go (and_lacks (has_no_location k) (not (eqb l 0)) e)
  where
    go : (has_no_location k ≡ false) ⊎ (not (eqb l 0) ≡ false) → l ≡ 0
    go (inl o) = absurd (no_fails {b = has_no_location k} o refl t)
    go (inr o) = eqb-true l 0 (not-false (eqb l 0) o)

right_location : (k l : ℕ) → (T (has_no_location k) → l ≡ 0) → (has_no_location k && not (eqb l 0)) ≡ false
right_location k l f = lacks_and (has_no_location k) (not (eqb l 0)) (go (bool? (has_no_location k)))
  where
    go : (has_no_location k ≡ true) ⊎ (has_no_location k ≡ false) → (has_no_location k ≡ false) ⊎ (not (eqb l 0) ≡ false)
    go (inl e) = inr (ap not (eq-eqb l 0 (f (yes_holds {b = has_no_location k} e refl))))
    go (inr e) = inl e

-- 12
order_right : (x y : ℕ) → (not (eqb y none) && (eqb x none || leb y x)) ≡ false → (y ≡ none) ⊎ ((x ≢ none) × (x < y))
order_right x y e = go (and_lacks (not (eqb y none)) (eqb x none || leb y x) e)
  where
    go : (not (eqb y none) ≡ false) ⊎ ((eqb x none || leb y x) ≡ false) → (y ≡ none) ⊎ ((x ≢ none) × (x < y))
    go (inl o) = inl (eqb-true y none (not-false (eqb y none) o))
    go (inr o) = let t = or_neither (eqb x none) (leb y x) o in inr (eqb-false x none t.0, leb-false y x t.1)

right_order : (x y : ℕ) → (y ≡ none) ⊎ ((x ≢ none) × (x < y)) → (not (eqb y none) && (eqb x none || leb y x)) ≡ false
right_order x y (inl e) = lacks_and (not (eqb y none)) (eqb x none || leb y x) (inl (ap not (eq-eqb y none e)))
right_order x y (inr h) =
    lacks_and (not (eqb y none)) (eqb x none || leb y x)
    (inr (neither_or (eqb x none) (leb y x) (ne_eqb x none h.0) (lt-leb y x h.1)))

module _ (s : List ℕ) where
  same_routine : (x : ℕ) → x < count_n s → (node (nodes_of s) x).routine ≡ (node_at s x).routine
  same_routine x h = ap (λ (n : Node). n.routine) (nodes_at_lem s x h)

  -- 11: a successor that is some, is "below N", and is in node i's routine
  abbrev some : ℕ → Bool
  some x = not (eqb x none)

  abbrev beyond : ℕ → Bool
  beyond x = not (ltb x (count_n s))

  abbrev elsewhere : ℕ → ℕ → Bool
  elsewhere i x = not (eqb (node_at s x).routine (node_at s i).routine)

  straight : (i x : ℕ) → astray s i x ≡ false → Goes (nodes_of s) (node_at s i) x
  unfolding astray
  straight i x e = go (and_lacks (some x) (beyond x || elsewhere i x) e)
    where
      go : (some x ≡ false) ⊎ ((beyond x || elsewhere i x) ≡ false) → Goes (nodes_of s) (node_at s i) x
      go (inl o) = inl (eqb-true x none (not-false (eqb x none) o))
      go (inr o) =
          let t = or_neither (beyond x) (elsewhere i x) o in
          let h : x < count_n s = ltb-true x (count_n s) (not-false _ t.0) in
          inr (omega (arith, nodes_length s), same_routine x h ∙ eqb-true (node_at s x).routine (node_at s i).routine (not-false _ t.1))

  goes : (i x : ℕ) → Goes (nodes_of s) (node_at s i) x → astray s i x ≡ false
  unfolding astray
  goes i x (inl e) = lacks_and (some x) (beyond x || elsewhere i x) (inl (ap not (eq-eqb x none e)))
  goes i x (inr g) =
      let h : x < count_n s = omega (arith, nodes_length s, g.0) in
      let here = eq-eqb (node_at s x).routine (node_at s i).routine (sym (same_routine x h) ∙ g.1) in
      lacks_and (some x) (beyond x || elsewhere i x)
      (inr (neither_or (beyond x) (elsewhere i x) (ap not (lt-ltb x (count_n s) h)) (ap not here)))

  clear_ok : (i : ℕ) → NoneApplies (node_rules s i) → NodeOk (version_of s) (count_f s) (nodes_of s) (node_at s i)
  unfolding node_rules wrong_routine wrong_kind wrong_location wrong_successor wrong_order
  clear_ok i o =
      let t = or_neither (astray s i (node_at s i).first) (astray s i (node_at s i).second) o.1.1.1.0 in
      record {
        routine = ltb-true (node_at s i).routine (count_f s) (not-false _ o.0);
        kind = leb-false (kinds_of (version_of s)) (node_at s i).kind o.1.0;
        location = location_right (node_at s i).kind (node_at s i).location o.1.1.0;
        first = straight i (node_at s i).first t.0;
        second = straight i (node_at s i).second t.1;
        order = order_right (node_at s i).first (node_at s i).second o.1.1.1.1.0;
      }

  ok_clear : (i : ℕ) → NodeOk (version_of s) (count_f s) (nodes_of s) (node_at s i) → NoneApplies (node_rules s i)
  unfolding node_rules wrong_routine wrong_kind wrong_location wrong_successor wrong_order
  ok_clear i ok =
      let n = node_at s i in
      let routine = ap not (lt-ltb n.routine (count_f s) ok.routine) in
      let kind = lt-leb (kinds_of (version_of s)) n.kind ok.kind in
      let location = right_location n.kind n.location ok.location in
      let first = goes i n.first ok.first in
      let second = goes i n.second ok.second in
      let successor = neither_or (astray s i n.first) (astray s i n.second) first second in
      (routine, (kind, (location, (successor, (right_order n.first n.second ok.order, tt)))))

  -- THE NODES OF A LISTING OF RIGHT FORM ARE VALID
  pub formed_valid : Formed s → Valid (version_of s) (count_f s) (nodes_of s)
  formed_valid e a h =
      let k : a < count_n s = omega (arith, nodes_length s) in
      subst (NodeOk (version_of s) (count_f s) (nodes_of s)) (sym (nodes_at_lem s a k)) (clear_ok a ((rows_clear s e).1 a k))

  -- and conversely, under a heading that is right
  pub headed_formed : Headed s → Valid (version_of s) (count_f s) (nodes_of s) → Formed s
  headed_formed h v =
      clear_rows s (headed_clear s h)
      (λ a k. ok_clear a (subst (NodeOk (version_of s) (count_f s) (nodes_of s)) (nodes_at_lem s a k) (v a (omega (arith, nodes_length s)))))

module _ (v f : ℕ) (L : Listing) (is : T (is_version v)) (low : 1 ≤ f) (high : f ≤ ROUTINES) (few : length L ≤ NODES) where
  written_headed : Headed (bytes_of v f L)
  unfolding bytes_of
  written_headed = record {
    long = omega arith;
    mark₀ = refl;
    mark₁ = refl;
    mark₂ = refl;
    version = subst (λ (w : ℕ). T (is_version w)) (sym (read_version v f L)) is;
    some = low;
    routines = high;
    nodes = few;
    exact = bytes_length v f L;
  }

  -- THE BYTES OF VALID NODES ARE OF RIGHT FORM
  pub valid_formed : Valid v f L → Formed (bytes_of v f L)
  valid_formed valid =
      let s = bytes_of v f L in
      headed_formed s written_headed
      (rw (read_version v f L, read_count_f v f L, read_written v f L) valid)
