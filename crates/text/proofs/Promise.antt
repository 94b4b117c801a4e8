-- The promise of `text::listing`: every text has an answer, a refusal keeps the buffer, and two answers and contents that meet it are equal.
use mathlib.Core.Path.{◌≡◌, refl, sym, ap, ◌∙◌}
use mathlib.Core.List.{List}
use Prim.Native.Nat.{ℕ}
use native.Mathlib.Omega.{arith}
use lib.ListN.{length}
use Rattle.std.specs.Prelude.{Result, Ok, Err}
use Rattle.listing.specs.declared.reason.Reason.{Reason}
use Rattle.listing.proofs.Reasons.{reasons_apart}
use Rattle.listing.specs.Rules.{Refusal, passed, refused, first_of}
use Rattle.listing.specs.Answer.{Answer, done, refusal, filled}
use Rattle.grammar.specs.Tree.{Text}
use Rattle.grammar.specs.Stands.{TreeOf}
use Rattle.grammar.specs.Inner.Reader.{Outcome, tree, bad, parse}
use Rattle.grammar.proofs.Places.{tree_found, bad_found, found_tree, found_bad}
use Rattle.text.specs.Typing.{typed_rules, listing_of, typed_says, Typed, bad as bad-text, refuses, writes}

-- ── What is answered, worked out ────────────────────────────────────────────
unfoldable pub by_rules : Refusal → Text → List ℕ → Answer × List ℕ
by_rules passed t old = (done 0 0 (length (listing_of t)), filled (listing_of t) old)
by_rules (refused k p) t old = (refusal k p, old)

-- the answer, and the content of a buffer of `room` bytes that held `old`
unfoldable pub reply : Outcome → ℕ → List ℕ → Answer × List ℕ
reply (tree t) room old = by_rules (first_of (typed_rules t room)) t old
reply (bad p) room old = (refusal 17 p, old)

pub reply_right : (s old : List ℕ) → Typed s old (reply (parse s) (length old) old).0 (reply (parse s) (length old) old).1
unfolding reply by_rules
reply_right s old = go (parse s) refl
  where
    by_rules_lem : (t : Text) → TreeOf s t → (r : Refusal) → first_of (typed_rules t (length old)) ≡ r → Typed s old (by_rules r t old).0 (by_rules r t old).1
    by_rules_lem t h passed e = writes t h e
    by_rules_lem t h (refused k p) e = refuses t k p h e

    go : (o : Outcome) → parse s ≡ o → Typed s old (reply o (length old) old).0 (reply o (length old) old).1
    go (tree t) e = by_rules_lem t (found_tree s t e) (first_of (typed_rules t (length old))) refl
    go (bad p) e = bad-text p (found_bad s p e)

reply_only : (s old : List ℕ) (a : Answer) (l : List ℕ) → Typed s old a l → reply (parse s) (length old) old ≡ (a, l)
unfolding reply by_rules
reply_only s old a l (bad-text p h) = ap (λ (o : Outcome). reply o (length old) old) (bad_found s p h)
reply_only s old a l (refuses t k p h e) =
    ap (λ (o : Outcome). reply o (length old) old) (tree_found s t h) ∙ ap (λ (r : Refusal). by_rules r t old) e
reply_only s old a l (writes t h e) =
    ap (λ (o : Outcome). reply o (length old) old) (tree_found s t h) ∙ ap (λ (r : Refusal). by_rules r t old) e

-- two answers that say the same are the same
says_once : (r r' : Result ℕ Reason) → typed_says r ≡ typed_says r' → r ≡ r'
says_once (Ok n) (Ok m) e = ap Ok (ap (λ (x : Answer). x.count) e)
says_once (Ok n) (Err r) e = let z : ◌≡◌ {A = ℕ} 0 2 = ap (λ (x : Answer). x.kind) e in absurd (omega arith)
says_once (Err r) (Ok n) e = let z : ◌≡◌ {A = ℕ} 2 0 = ap (λ (x : Answer). x.kind) e in absurd (omega arith)
says_once (Err r) (Err q) e = ap Err (reasons_apart r q (ap (λ (x : Answer). x.first) e) (ap (λ (x : Answer). x.second) e))

-- ── The promise ─────────────────────────────────────────────────────────────
-- EVERY TEXT HAS AN ANSWER
pub typed_some : (s old : List ℕ) → (a : Answer) × (l : List ℕ) × Typed s old a l
typed_some s old = let r = reply (parse s) (length old) old in (r.0, r.1, reply_right s old)

-- A REFUSAL CHANGES NO BYTE OF THE BUFFER
pub refusal_keeps : (s old new : List ℕ) (k p : ℕ) → Typed s old (refusal k p) new → new ≡ old
refusal_keeps s old new k p w = go (refusal k p) new w refl
  where
    go : (a : Answer) (l : List ℕ) → Typed s old a l → a ≡ refusal k p → l ≡ old
    go a l (bad-text q h) e = refl
    go a l (refuses t j q h f) e = refl
    go a l (writes t h f) e = let z : ◌≡◌ {A = ℕ} 0 2 = ap (λ (x : Answer). x.kind) e in absurd (omega arith)

-- ONE ANSWER AND ONE CONTENT
pub typed_once : (s old : List ℕ) (a b : Answer) (l m : List ℕ) → Typed s old a l → Typed s old b m → (a ≡ b) × (l ≡ m)
typed_once s old a b l m x y =
    let e = sym (reply_only s old a l x) ∙ reply_only s old b m y in
    (ap (λ (z : Answer × List ℕ). z.0) e, ap (λ (z : Answer × List ℕ). z.1) e)

-- AND SO OF THE ANSWERS OF `text::listing` ITSELF
pub listing_once : (s old new new' : List ℕ) (r r' : Result ℕ Reason)
    → Typed s old (typed_says r) new → Typed s old (typed_says r') new' → (r ≡ r') × (new ≡ new')
listing_once s old new new' r r' x y =
    let e = typed_once s old (typed_says r) (typed_says r') new new' x y in
    (says_once r r' e.0, e.1)
