-- What a heading that passes says, and conversely.
use mathlib.Core.Path.{◌≡◌, refl, ap}
use mathlib.Core.Bool.{false, not, ◌&&◌}
use mathlib.Core.List.{List}
use Prim.Native.Nat.{ℕ, ◌≤◌}
use native.Mathlib.Omega.{arith}
use lib.Dec.{eqb, ltb}
use borrow.Author.Tests.{ltb-false, eqb-true, eqb-false, not-false, le-ltb, eq-eqb, ne_eqb}
use Rattle.listing.specs.Limits.{ROUTINES}
use Rattle.listing.specs.Kinds.{is_version}
use Rattle.listing.specs.Bytes.{byte, version_of, count_f}
use Rattle.listing.specs.Inner.Whole.{Whole}
use Rattle.listing.specs.Rules.{NoneApplies}
use Rattle.listing.specs.Form.{wrong_mark, wrong_f, heading_rules, Formed}
use Rattle.listing.specs.Valid.{Headed}
use Rattle.listing.proofs.Bools.{or_neither, neither_or, and_both, T_true, not_holds}
use Rattle.listing.proofs.Rows.{rows_clear}

mark_right : (s : List ℕ) → wrong_mark s ≡ false → (byte s 0 ≡ 0x4F) × (byte s 1 ≡ 0x52) × (byte s 2 ≡ 0x44)
unfolding wrong_mark
mark_right s e =
    let t = and_both (eqb (byte s 0) 0x4F && eqb (byte s 1) 0x52) (eqb (byte s 2) 0x44) (not-false _ e) in
    let u = and_both (eqb (byte s 0) 0x4F) (eqb (byte s 1) 0x52) t.0 in
    (eqb-true _ _ u.0, eqb-true _ _ u.1, eqb-true _ _ t.1)

right_mark : (s : List ℕ) → byte s 0 ≡ 0x4F → byte s 1 ≡ 0x52 → byte s 2 ≡ 0x44 → wrong_mark s ≡ false
unfolding wrong_mark
right_mark s e₀ e₁ e₂ = rw (eq-eqb _ _ e₀, eq-eqb _ _ e₁, eq-eqb _ _ e₂)

routines_right : (s : List ℕ) → wrong_f s ≡ false → (1 ≤ count_f s) × (count_f s ≤ ROUTINES)
unfolding wrong_f
routines_right s e =
    let t = or_neither (eqb (count_f s) 0) (ltb ROUTINES (count_f s)) e in
    let some = eqb-false (count_f s) 0 t.0 in
    (omega arith, ltb-false _ _ t.1)

right_routines : (s : List ℕ) → 1 ≤ count_f s → count_f s ≤ ROUTINES → wrong_f s ≡ false
unfolding wrong_f
right_routines s low high = neither_or (eqb (count_f s) 0) (ltb ROUTINES (count_f s)) (ne_eqb (count_f s) 0 (λ e. omega arith)) (le-ltb _ _ high)

pub clear_headed : (s : List ℕ) → NoneApplies (heading_rules s) → Headed s
unfolding heading_rules
clear_headed s o =
    let m = mark_right s o.1.0 in
    let r = routines_right s o.1.1.1.0 in
    record {
      long = ltb-false _ _ o.0;
      mark₀ = m.0;
      mark₁ = m.1;
      mark₂ = m.2;
      version = not_holds {r = is_version (version_of s)} o.1.1.0 refl;
      some = r.0;
      routines = r.1;
      nodes = ltb-false _ _ o.1.1.1.1.0;
      exact = eqb-true _ _ (not-false _ o.1.1.1.1.1.0);
    }

pub headed_clear : (s : List ℕ) → Headed s → NoneApplies (heading_rules s)
unfolding heading_rules
headed_clear s h =
    let mark = right_mark s h.mark₀ h.mark₁ h.mark₂ in
    let version = ap not (T_true (is_version (version_of s)) h.version) in
    let routines = right_routines s h.some h.routines in
    let exact = ap not (eq-eqb _ _ h.exact) in
    (le-ltb _ _ h.long, (mark, (version, (routines, (le-ltb _ _ h.nodes, (exact, tt))))))

-- such a listing has all its records
pub headed_whole : (s : List ℕ) → Headed s → Whole s
headed_whole s h = record { few = h.nodes; long = omega (arith, h.exact) }

-- THE HEADING OF A LISTING OF RIGHT FORM
pub formed_headed : (s : List ℕ) → Formed s → Headed s
formed_headed s e = clear_headed s (rows_clear s e).0
