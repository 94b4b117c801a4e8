-- The way through the table of a listing's form: the heading's rows, and then each node's; and what a listing of right form has.
use mathlib.Core.Path.{◌≡◌, sym, ap, ◌∙◌}
use mathlib.Core.List.{List, ◌++◌}
use Prim.Native.Nat.{ℕ, suc, ◌+◌, ◌-◌, ◌<◌, ◌≤◌}
use native.Mathlib.Nat.{sub-zero}
use native.Mathlib.Omega.{arith}
use native.Mathlib.Numerals.{add-one}
use Rattle.listing.specs.Bytes.{count_n, count_f}
use Rattle.listing.specs.Inner.Whole.{Whole}
use Rattle.listing.specs.Rules.{Refusal, passed, refused, first_of}
use Rattle.listing.specs.Answer.{done, refusal}
use Rattle.listing.specs.Form.{heading_rules, node_rules, nodes_rules, form_rules, Formed, read_by, form_of}
use Rattle.listing.proofs.Table.{pass, stop, none_applies}
use Rattle.listing.proofs.Headed.{clear_headed, headed_whole, formed_headed}

-- a heading that passes
pub heading_whole : (s : List ℕ) → first_of (heading_rules s) ≡ passed → Whole s
heading_whole s e = headed_whole s (clear_headed s (none_applies (heading_rules s) e))

-- the answer by what the table says
by_table : {x y : Refusal} (n f : ℕ) → x ≡ y → read_by x n f ≡ read_by y n f
by_table n f e = ap (λ (y : Refusal). read_by y n f) e

-- the answer where the heading refuses
pub by_heading : (s : List ℕ) (k p : ℕ) → first_of (heading_rules s) ≡ refused k p → refusal k p ≡ form_of s
unfolding form_of form_rules
by_heading s k p e = by_table (count_n s) (count_f s) (sym (stop (heading_rules s) (nodes_rules s 0 (count_n s)) k p e))

-- at node i of n the answer is what the rows of the nodes from i on say
pub record From (s : List ℕ) (n i : ℕ) : Type 0 where
  pub whole : Whole s
  pub count : n ≡ count_n s
  pub most : i ≤ n
  pub rest : form_of s ≡ read_by (first_of (nodes_rules s i (n - i))) n (count_f s)

past_heading : (s : List ℕ) → first_of (heading_rules s) ≡ passed → form_of s ≡ read_by (first_of (nodes_rules s 0 (count_n s))) (count_n s) (count_f s)
unfolding form_of form_rules
past_heading s e = by_table (count_n s) (count_f s) (pass (heading_rules s) (nodes_rules s 0 (count_n s)) e)

pub start : (s : List ℕ) (n : ℕ) → n ≡ count_n s → first_of (heading_rules s) ≡ passed → From s n 0
start s n e p = record { whole = heading_whole s p; count = e; most = omega arith; rest = rw (e, sub-zero) (past_heading s p) }

next_node : (s : List ℕ) (n i : ℕ) → i < n → nodes_rules s i (n - i) ≡ node_rules s i ++ nodes_rules s (i + 1) (n - (i + 1))
next_node s n i h =
    let e : n - i ≡ suc (n - (i + 1)) = omega arith in
    rw (e, add-one i)

pub node_refuses : (s : List ℕ) (n i k p : ℕ) → From s n i → i < n → first_of (node_rules s i) ≡ refused k p → refusal k p ≡ form_of s
node_refuses s n i k p from h e =
    let later = nodes_rules s (i + 1) (n - (i + 1)) in
    sym (from.rest ∙ by_table n (count_f s) (ap first_of (next_node s n i h) ∙ stop (node_rules s i) later k p e))

pub node_passes : (s : List ℕ) (n i : ℕ) → From s n i → i < n → first_of (node_rules s i) ≡ passed → From s n (i + 1)
node_passes s n i from h e =
    let later = nodes_rules s (i + 1) (n - (i + 1)) in
    record {
      whole = from.whole;
      count = from.count;
      most = omega arith;
      rest = from.rest ∙ by_table n (count_f s) (ap first_of (next_node s n i h) ∙ pass (node_rules s i) later e);
    }

pub all_read : (s : List ℕ) (n i : ℕ) → From s n i → n ≤ i → done (count_n s) (count_f s) 0 ≡ form_of s
all_read s n i from e =
    let none : n - i ≡ 0 = omega arith in
    let rest = from.rest in
    let count = from.count in
    rw (rest, none, count)

-- A LISTING OF RIGHT FORM HAS ALL ITS RECORDS
pub formed_whole : (s : List ℕ) → Formed s → Whole s
formed_whole s e = headed_whole s (formed_headed s e)
