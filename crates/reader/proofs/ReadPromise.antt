-- What the reader's promise comes to: each refusal exactly under its condition, one answer, and what a caller learns of it.
use mathlib.Core.Path.{◌≡◌, sym, ap, ap₂, ◌∙◌}
use mathlib.Core.Logic.{◌↔◌}
use mathlib.Core.List.{List}
use Prim.Native.Nat.{ℕ}
use Rattle.std.specs.Prelude.{Result, IfOk}
use Rattle.listing.specs.Bytes.{count_n, count_f}
use Rattle.listing.specs.Rules.{Refusal, refused, first_of, FirstRow, NoneApplies}
use Rattle.listing.specs.Answer.{Answer, done, refusal}
use Rattle.listing.specs.Form.{read_says, listing_says, read_by}
use Rattle.listing.specs.declared.reason.Reason.{Reason}
use Rattle.listing.specs.declared.records.Counts.{Counts}
use Rattle.listing.proofs.Table.{exact, given, none_applies, lets_pass}
use Rattle.listing.proofs.Answers.{refused_by, done_by, says_apart, listings_apart}
use Rattle.reader.specs.Read.{read_rules, Admitted, read_of}

-- what a caller that met a refusal learns
pub read_refused : (s : List ℕ) (k p : ℕ) → refusal k p ≡ read_of s → first_of (read_rules s) ≡ refused k p
unfolding read_of
read_refused s k p e = refused_by (first_of (read_rules s)) (count_n s) (count_f s) k p (sym e)

-- what a caller that met a good listing learns
pub read_good : (s : List ℕ) (n f : ℕ) → done n f 0 ≡ read_of s → Admitted s × (n ≡ count_n s) × (f ≡ count_f s)
unfolding read_of
read_good s n f e = done_by (first_of (read_rules s)) (count_n s) (count_f s) n f (sym e)

-- REFUSAL k AT p IS GIVEN EXACTLY IF RULE k APPLIES AT p AND NO EARLIER RULE DOES
pub refused_exactly : (s : List ℕ) (a : Answer) → a ≡ read_of s → (k p : ℕ) → (a ≡ refusal k p) ↔ FirstRow (read_rules s) k p
unfolding read_of
refused_exactly s a e k p = (
  λ h. exact (read_rules s) k p (refused_by (first_of (read_rules s)) (count_n s) (count_f s) k p (sym e ∙ h)),
  λ f. e ∙ ap (λ (y : Refusal). read_by y (count_n s) (count_f s)) (given f),
)

-- A LISTING IS READ EXACTLY IF NO RULE APPLIES, AND THEN WITH ITS COUNTS
pub good_exactly : (s : List ℕ) (a : Answer) → a ≡ read_of s → (n f : ℕ)
    → (a ≡ done n f 0) ↔ (NoneApplies (read_rules s) × (n ≡ count_n s) × (f ≡ count_f s))
unfolding read_of
good_exactly s a e n f = (
  λ h.
      let d = done_by (first_of (read_rules s)) (count_n s) (count_f s) n f (sym e ∙ h) in
      (none_applies (read_rules s) d.0, d.1, d.2),
  λ h.
      e ∙ ap (λ (y : Refusal). read_by y (count_n s) (count_f s)) (lets_pass (read_rules s) h.0)
      ∙ ap₂ (λ (m g : ℕ). done m g 0) (sym h.1) (sym h.2),
)

-- ANY TWO ANSWERS THAT MEET THE PROMISE ARE EQUAL
pub one_answer : (s : List ℕ) (a b : Result Counts Reason) → read_says a ≡ read_of s → read_says b ≡ read_of s → a ≡ b
one_answer s a b ea eb = says_apart a b (ea ∙ sym eb)

-- and so are any two listings that do
pub one_listing : (s : List ℕ) (a b : Result (List ℕ) Reason) → IfOk a (λ l. l ≡ s) → IfOk b (λ l. l ≡ s) → listing_says a ≡ read_of s
    → listing_says b ≡ read_of s → a ≡ b
one_listing s a b sa sb ea eb = listings_apart s a b sa sb (ea ∙ sym eb)
