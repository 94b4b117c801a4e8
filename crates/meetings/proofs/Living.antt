-- Who may meet whom, by rows: from the rows of who overlaps whom, and the sets of the accesses and of the writers.
use mathlib.Core.Path.{◌≡◌, subst}
use mathlib.Core.Logic.{⊎_elim}
use mathlib.Core.List.{List}
use Prim.Native.Nat.{ℕ, ◌+◌, ◌≤◌, ◌<◌}
use native.Mathlib.Omega.{arith}
use native.Mathlib.Decide.{dec_lt}
use Rattle.listing.specs.Node.{Listing}
use Rattle.order.specs.Walks.{kind_at, loc_at, Access}
use Rattle.order.specs.Inner.Living.{Writer, Lives}
use Rattle.order.proofs.Meeting.{writer_access, meets_lives}
use Rattle.rows.specs.Inner.Rows.{Has, Holds, Members, Low, Blank}
use Rattle.rows.specs.Inner.Touched.{Poured, Sifted}
use Rattle.rows.proofs.OneRow.{poured_gives, poured_keeps, poured_brings, sifted_gives, sifted_keeps}
use Rattle.reach.specs.Inner.Whole.{StartsIn, EndsIn}
use Rattle.meetings.specs.Inner.Meeting.{Overlapping, FromSome, LiveAmong, Meeting}
use Rattle.meetings.proofs.Counted.{Counted, access_below}

-- ── Rows poured together, node by node ──────────────────────────────────────
module _ (u m : List ℕ) (n : ℕ) where
  pub from_none : (s : List ℕ) → Blank s → Members s n (FromSome u m 0)
  from_none s h = record { sound = λ b l g. absurd (h 0 b l g); whole = λ b l p. absurd (omega (arith, p.1)) }

  further : (i b : ℕ) → FromSome u m i b → FromSome u m (i + 1) b
  further i b p = (p.0, omega (arith, p.1), p.2, p.3)

  -- a node of the set: its row is poured in
  pub from_more : (s v : List ℕ) (i : ℕ) → n ≤ 128 → Low n m → Members s n (FromSome u m i) → Has u 0 i
      → Poured m s v 0 i → Members v n (FromSome u m (i + 1))
  from_more s v i small low g has p = record {
    sound = λ b l h.
        ⊎_elim (λ q. let x = g.sound b l q in (x.0, further i b x.1)) (λ q. ((low i b l q).1, (i, omega arith, has, q)))
        (poured_gives m s v 0 i p b l h);
    whole = λ b l q. below b l q (dec_lt q.0 i);
  }
    where
      below : (b : ℕ) → b < n → (q : FromSome u m (i + 1) b) → Dec (q.0 < i) → Has v 0 b
      below b l q (yes k) = poured_keeps m s v 0 i p 0 b (omega arith) (g.whole b l (q.0, k, q.2, q.3))
      below b l q (no k) =
          let e : q.0 ≡ i = omega (arith, q.1) in
          poured_brings m s v 0 i p b (omega arith) (subst (λ (w : ℕ). Has m w b) e q.3)

  -- a node that is not of the set
  pub from_skip : (s : List ℕ) (i : ℕ) → Members s n (FromSome u m i) → (Has u 0 i → ⊥) → Members s n (FromSome u m (i + 1))
  from_skip s i g none = record {
    sound = λ b l h. let x = g.sound b l h in (x.0, further i b x.1);
    whole = λ b l q. below b l q (dec_lt q.0 i);
  }
    where
      below : (b : ℕ) → b < n → (q : FromSome u m (i + 1) b) → Dec (q.0 < i) → Has s 0 b
      below b l q (yes k) = g.whole b l (q.0, k, q.2, q.3)
      below b l q (no k) = let e : q.0 ≡ i = omega (arith, q.1) in absurd (none (subst (Has u 0) e q.2))

  -- of what is poured together, the accesses
  pub among_accesses : (acc s live : List ℕ) → n ≤ 128 → Members s n (FromSome u m n) → Sifted acc s live 0 0
      → Members live n (LiveAmong acc u m n)
  among_accesses acc s live small g p = record {
    sound = λ b l h. let x = sifted_gives acc s live 0 0 p b l h in let y = g.sound b l x.0 in (y.0, (x.1, y.1));
    whole = λ b l h. sifted_keeps acc s live 0 0 p b (omega arith) (g.whole b l h.1) h.0;
  }

-- ── Meeting ─────────────────────────────────────────────────────────────────
module _ {L : Listing} {n : ℕ} (few : Counted L n) {m acc wri live : List ℕ} (hm : Holds m n (Overlapping L))
    (ha : Members acc n (Access L)) (hw : Members wri n (Writer L)) (hl : Members live n (LiveAmong acc wri m n)) where
  small : (a : ℕ) → a < n → a < 128
  small a l = omega (arith, few.small)

  -- what stands in a writer's row lives
  lives : (b : ℕ) → b < 128 → Has live 0 b → Access L b × Lives L (loc_at L b)
  lives b l h =
      let x = (hl.sound b l h).1 in
      let w = x.1.0 in
      ((ha.sound b l x.0).1, (w, (hw.sound w (small w x.1.1) x.1.2).1, (hm.sound w b l x.1.3).2))

  alive : (b : ℕ) → b < n → Access L b → Lives L (loc_at L b) → Has live 0 b
  alive b l t h =
      let w = h.0 in
      let k = access_below few w (writer_access (kind_at L w) h.1) in
      hl.whole b l (ha.whole b l t, (w, k, hw.whole w k h.1, hm.whole w b k l h.2))

  -- MEETING: of those that overlap, the accesses that live
  pub meetings_hold : {v z : List ℕ} → Holds v n (StartsIn live m) → Holds z n (EndsIn live v) → Holds z n (Meeting L)
  meetings_hold hv hz = record {
    sound = λ a b l h.
        let ends = hz.sound a b l h in
        let starts = hv.sound a b l ends.2.0 in
        let x = lives a (small a starts.0) starts.2.1 in
        let y = lives b l ends.2.1 in
        (ends.0, ends.1, (x.0, y.0, (meets_lives L a b x.0 y.0).1 ((hm.sound a b l starts.2.0).2, x.1, y.1)));
    whole = λ a b la lb q.
        let h = (meets_lives L a b q.0 q.1).0 q.2 in
        let starts = hv.whole a b la lb (hm.whole a b la lb h.0, alive a la q.0 h.1) in
        hz.whole a b la lb (starts, alive b lb q.1 h.2);
  }
