-- When 18 is given, said over walks: the form is right, and its place is the lowest node that is neither an entry nor reached from one.
use mathlib.Core.Path.{◌≡◌, refl, sym, ap, subst, ◌∙◌}
use mathlib.Core.Logic.{◌↔◌, ◌⊎◌, inl, inr}
use mathlib.Core.Bool.{true, false}
use mathlib.Core.List.{List}
use Prim.Native.Nat.{ℕ, zero, suc, ◌+◌, ◌≤◌, ◌<◌}
use native.Mathlib.Omega.{arith}
use native.Mathlib.Decide.{ℕ_discrete}
use Rattle.listing.specs.Node.{Listing}
use Rattle.listing.specs.Bytes.{count_f, count_n, nodes_of}
use Rattle.listing.specs.Rules.{Rule, Refusal, passed, refused, first_of, FirstRow, here, later}
use Rattle.listing.specs.Answer.{refusal}
use Rattle.listing.specs.Form.{heading_rules, node_rules, nodes_rules, form_rules, Formed, read_by}
use Rattle.listing.specs.Inner.Numbered.{or_else}
use Rattle.listing.proofs.Bools.{bool?}
use Rattle.listing.proofs.Table.{row_passes, row_applies, first_of_append, pass, exact}
use Rattle.listing.proofs.Answers.{refused_by}
use Rattle.order.specs.Rows.{All}
use Rattle.order.specs.Entered.{Entered}
use Rattle.order.proofs.Lists.{all_append}
use Rattle.reader.specs.Read.{dead, dead_rules, read_rules, read_of}
use Rattle.reader.proofs.Dead.{dead_no, no_dead, rows_first}

-- ── The form's numbers are other ones ───────────────────────────────────────
abbrev Other : Rule → Type 0
Other r = r.number < 13

first_other : {rs : List Rule} {k p : ℕ} → All Other rs → FirstRow rs k p → k < 13
first_other h (here w) = h.0
first_other h (later w f) = first_other h.1 f

heading_other : (s : List ℕ) → All Other (heading_rules s)
unfolding heading_rules
heading_other s = (omega arith, (omega arith, (omega arith, (omega arith, (omega arith, (omega arith, tt))))))

node_other : (s : List ℕ) (i : ℕ) → All Other (node_rules s i)
unfolding node_rules
node_other s i = (omega arith, (omega arith, (omega arith, (omega arith, (omega arith, tt)))))

nodes_other : (s : List ℕ) (i k : ℕ) → All Other (nodes_rules s i k)
nodes_other s i zero = tt
nodes_other s i (suc k) = all_append Other (node_rules s i) (nodes_rules s (suc i) k) (node_other s i) (nodes_other s (suc i) k)

form_other : (s : List ℕ) → All Other (form_rules s)
unfolding form_rules
form_other s = all_append Other (heading_rules s) (nodes_rules s 0 (count_n s)) (heading_other s) (nodes_other s 0 (count_n s))

-- ── The lowest node ─────────────────────────────────────────────────────────
-- p is the lowest of k nodes from i on that is not entered
record Lowest (L : Listing) (i k p : ℕ) : Type 0 where
  low : i ≤ p
  high : p < i + k
  dead : Entered L p → ⊥
  below : (z : ℕ) → i ≤ z → z < p → Entered L z

first_lowest : (L : Listing) (i k p : ℕ) → first_of (dead_rules L i k) ≡ refused 18 p → Lowest L i k p
first_lowest L i zero p e = let z : ◌≡◌ {A = ℕ} 0 1 = cc in absurd (omega arith)
first_lowest L i (suc k) p e = go (bool? (dead L i)) (λ h. first_lowest L (suc i) k p h)
  where
    rest : Refusal
    rest = first_of (dead_rules L (suc i) k)

    go : (dead L i ≡ true) ⊎ (dead L i ≡ false) → (first_of (dead_rules L (suc i) k) ≡ refused 18 p → Lowest L (suc i) k p) → Lowest L i (suc k) p
    go (inl t) on =
        let same : refused 18 i ≡ refused 18 p = sym (row_applies 18 i rest t) ∙ e in
        let here : i ≡ p = cc in
        record {
          low = omega arith;
          high = omega arith;
          dead = subst (λ (x : ℕ). Entered L x → ⊥) here (λ h. let z = no_dead L i h in let y : ◌≡◌ {A = ℕ} 0 1 = cc in omega arith);
          below = λ z l h. absurd (omega arith);
        }
    go (inr f) on =
        let o = on (sym (row_passes 18 i rest f) ∙ e) in
        record {
          low = omega (arith, o.low);
          high = omega (arith, o.high);
          dead = o.dead;
          below = λ z l h. at z l h (ℕ_discrete i z) o;
        }
      where
        at : (z : ℕ) → i ≤ z → z < p → Dec (i ≡ z) → Lowest L (suc i) k p → Entered L z
        at z l h (yes q) o = subst (Entered L) q (dead_no L i f)
        at z l h (no q) o = o.below z (omega arith) h

-- 18 IS GIVEN EXACTLY IF THE FORM IS RIGHT AND p IS THE LOWEST NODE THAT NO WALK FROM ITS ROUTINE'S ENTRY REACHES, AND THAT IS NO ENTRY
pub dead_exactly : (s : List ℕ) (p : ℕ)
    → (read_of s ≡ refusal 18 p) ↔ (Formed s × (p < count_n s) × (Entered (nodes_of s) p → ⊥) × ((z : ℕ) → z < p → Entered (nodes_of s) z))
unfolding read_of read_rules
dead_exactly s p = (λ e. forth (first_of (form_rules s)) refl (given e), back)
  where
    rows : List Rule
    rows = dead_rules (nodes_of s) 0 (count_n s)

    Said : Type 0
    Said = Formed s × (p < count_n s) × (Entered (nodes_of s) p → ⊥) × ((z : ℕ) → z < p → Entered (nodes_of s) z)

    given : read_of s ≡ refusal 18 p → or_else (first_of (form_rules s)) (first_of rows) ≡ refused 18 p
    given e = sym (first_of_append (form_rules s) rows) ∙ refused_by (first_of (read_rules s)) (count_n s) (count_f s) 18 p e

    forth : (y : Refusal) → first_of (form_rules s) ≡ y → or_else (first_of (form_rules s)) (first_of rows) ≡ refused 18 p → Said
    forth passed e h =
        let o = first_lowest (nodes_of s) 0 (count_n s) p (sym (ap (λ (y : Refusal). or_else y (first_of rows)) e) ∙ h) in
        (e, omega (arith, o.high), o.dead, λ z l. o.below z (omega arith) l)
    forth (refused k q) e h =
        let same : refused k q ≡ refused 18 p = sym (ap (λ (y : Refusal). or_else y (first_of rows)) e) ∙ h in
        let eighteen : k ≡ 18 = cc in
        absurd (omega (arith, first_other (form_other s) (exact (form_rules s) k q e), eighteen))

    back : Said → read_of s ≡ refusal 18 p
    back (e, h, d, f) =
        ap (λ (y : Refusal). read_by y (count_n s) (count_f s))
        (pass (form_rules s) rows e ∙ rows_first (nodes_of s) 0 (count_n s) p (omega arith) (omega arith) (λ z l k. f z k) d)
