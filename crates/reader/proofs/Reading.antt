-- The reader's answers: by the form's table, and then by the search.
use mathlib.Core.Path.{◌≡◌, sym, ap, ◌∙◌}
use mathlib.Core.List.{List}
use Prim.Native.Nat.{ℕ, ◌≤◌, ◌<◌}
use native.Mathlib.Omega.{arith}
use Rattle.listing.specs.Bytes.{count_f, count_n, nodes_of}
use Rattle.listing.specs.Rules.{Refusal, refused, first_of}
use Rattle.listing.specs.Answer.{done, refusal}
use Rattle.listing.specs.Form.{form_rules, Formed, read_by, form_of}
use Rattle.listing.proofs.Table.{pass, stop}
use Rattle.listing.proofs.Answers.{refused_by, done_by}
use Rattle.order.specs.Entered.{Entered}
use Rattle.order.proofs.Entering.{entered?}
use Rattle.rows.specs.Inner.Least.{Least}
use Rattle.reader.specs.Read.{dead_rules, read_rules, read_of}
use Rattle.reader.proofs.Dead.{rows_none, rows_first}

module _ (s : List ℕ) where
  -- what is learnt of the form
  pub form_refused : (k p : ℕ) → refusal k p ≡ form_of s → first_of (form_rules s) ≡ refused k p
  unfolding form_of
  form_refused k p e = refused_by (first_of (form_rules s)) (count_n s) (count_f s) k p (sym e)

  pub form_good : (n f : ℕ) → done n f 0 ≡ form_of s → Formed s × (n ≡ count_n s) × (f ≡ count_f s)
  unfolding form_of
  form_good n f e = done_by (first_of (form_rules s)) (count_n s) (count_f s) n f (sym e)

  -- the form refuses
  pub by_form : (k p : ℕ) → first_of (form_rules s) ≡ refused k p → refusal k p ≡ read_of s
  unfolding read_of read_rules
  by_form k p e = ap (λ (y : Refusal). read_by y (count_n s) (count_f s)) (sym (stop (form_rules s) (dead_rules (nodes_of s) 0 (count_n s)) k p e))

  module _ (e : Formed s) (r : ℕ) (dead : Least (λ a. Entered (nodes_of s) a → ⊥) 0 (count_n s) r) where
    -- every node below r is entered
    below : (z : ℕ) → 0 ≤ z → z < r → Entered (nodes_of s) z
    below z l h = go (entered? (nodes_of s) z)
      where
        go : Dec (Entered (nodes_of s) z) → Entered (nodes_of s) z
        go (yes k) = k
        go (no k) = absurd (dead.none z l h k)

    -- a node is dead
    pub by_dead : r < count_n s → refusal 18 r ≡ read_of s
    unfolding read_of read_rules
    by_dead h =
        ap (λ (y : Refusal). read_by y (count_n s) (count_f s))
        (sym (pass (form_rules s) (dead_rules (nodes_of s) 0 (count_n s)) e
        ∙ rows_first (nodes_of s) 0 (count_n s) r (omega arith) (omega arith) below (dead.here h)))

    -- NONE IS: the answer is that of the form
    pub by_none : count_n s ≤ r → form_of s ≡ read_of s
    unfolding form_of read_of read_rules
    by_none h =
        ap (λ (y : Refusal). read_by y (count_n s) (count_f s))
        (e ∙ sym (pass (form_rules s) (dead_rules (nodes_of s) 0 (count_n s)) e
        ∙ rows_none (nodes_of s) 0 (count_n s) (λ z l k. below z l (omega arith))))
