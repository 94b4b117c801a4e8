-- What `text::listing` answers into a buffer for the longest listing is what the program writes.
use mathlib.Core.Path.{◌≡◌, sym, ap, ◌∙◌, subst}
use mathlib.Core.List.{List, ◌++◌}
use Prim.Native.Nat.{ℕ, ◌≤◌}
use native.Mathlib.Omega.{arith}
use lib.ListN.{length, take, drop, length-append}
use lib.Seq.{take-append_seam}
use borrow.Author.Tests.{ltb-false}
use Rattle.std.specs.Prelude.{Result, Ok, Err}
use Rattle.listing.specs.Limits.{NODES}
use Rattle.listing.specs.Bytes.{record_at}
use Rattle.listing.specs.Rules.{passed, first_of}
use Rattle.listing.specs.Answer.{Answer, done, refusal}
use Rattle.listing.proofs.Table.{none_applies}
use Rattle.listing.proofs.RoundTrip.{bytes_length}
use Rattle.grammar.specs.Tree.{Text, size_of, parts_of, nodes_of}
use Rattle.text.specs.Typing.{typed_rules, listing_of, typed_says, Typed, bad, refuses, writes}
use Rattle.listing.specs.Reason.{number, place}
use Rattle.listing.specs.declared.reason.Reason.{Reason}
use Rattle.text.proofs.Counts.{text_count}
use Rattle.say.specs.Lines.{refusal_line}
use Rattle.typing.specs.Output as out

-- the first n bytes of the buffer are what is to be written
pub record Shows (s new : List ℕ) (n : ℕ) : Type 0 where
  pub within : n ≤ length new
  pub short : n ≤ record_at NODES
  pub output : out.TypedOutput s (take n new)

module _ (s old new : List ℕ) (room : length old ≡ record_at NODES) where
  -- a listing that was written fits
  fits : (t : Text) → first_of (typed_rules t (length old)) ≡ passed → length (listing_of t) ≤ length old
  unfolding typed_rules listing_of
  fits t e =
      let rows = none_applies (typed_rules t (length old)) e in
      let l = ltb-false (length old) (record_at (size_of t)) rows.1.1.0 in
      omega (arith, bytes_length 1 (parts_of t) (nodes_of t), text_count t, l)

  pub shows : (a : Result ℕ Reason) (n : ℕ) → Typed s old (typed_says a) new → a ≡ Ok n → Shows s new n
  shows a n h e = go (typed_says a) new h (ap typed_says e)
    where
      go : (x : Answer) (m : List ℕ) → Typed s old x m → x ≡ done 0 0 n → Shows s m n
      go x m (bad p b) q = let z : ◌≡◌ {A = ℕ} 2 0 = ap (λ (y : Answer). y.kind) q in absurd (omega arith)
      go x m (refuses t k p r f) q = let z : ◌≡◌ {A = ℕ} 2 0 = ap (λ (y : Answer). y.kind) q in absurd (omega arith)
      go x m (writes t r f) q =
          let size : length (listing_of t) ≡ n = ap (λ (y : Answer). y.count) q in
          let rest = drop (length (listing_of t)) old in
          let whole : take n (listing_of t ++ rest) ≡ listing_of t =
          ap (λ (k : ℕ). take k (listing_of t ++ rest)) (sym size) ∙ take-append_seam (listing_of t) rest in
          record {
            within = omega (arith, length-append (listing_of t) rest);
            short = omega (arith, fits t f);
            output = subst (out.TypedOutput s) (sym whole) (out.writes t r (ap (λ (k : ℕ). first_of (typed_rules t k)) (sym room) ∙ f));
          }

  -- WHAT IS REFUSED IS SAID
  pub tells : (a : Result ℕ Reason) (r : Reason) → Typed s old (typed_says a) new → a ≡ Err r → out.TypedOutput s (refusal_line (number r) (place r))
  tells a r h e = go (number r) (place r) (typed_says a) new h (ap typed_says e)
    where
      go : (k p : ℕ) (x : Answer) (m : List ℕ) → Typed s old x m → x ≡ refusal k p → out.TypedOutput s (refusal_line k p)
      go k p x m (bad p' b) q =
          let k-is : 17 ≡ k = ap (λ (y : Answer). y.first) q in
          let p-is : p' ≡ p = ap (λ (y : Answer). y.second) q in
          subst (λ (i : ℕ). out.TypedOutput s (refusal_line i p)) k-is (subst (λ (i : ℕ). out.TypedOutput s (refusal_line 17 i)) p-is (out.bad p' b))
      go k p x m (refuses t k' p' r f) q =
          let k-is : k' ≡ k = ap (λ (y : Answer). y.first) q in
          let p-is : p' ≡ p = ap (λ (y : Answer). y.second) q in
          let same = out.refuses t k' p' r (ap (λ (i : ℕ). first_of (typed_rules t i)) (sym room) ∙ f) in
          subst (λ (i : ℕ). out.TypedOutput s (refusal_line i p)) k-is (subst (λ (i : ℕ). out.TypedOutput s (refusal_line k' i)) p-is same)
      go k p x m (writes t r f) q = let z : ◌≡◌ {A = ℕ} 0 2 = ap (λ (y : Answer). y.kind) q in absurd (omega arith)
