-- The promise of `text::listing(text, out)`.
use Rattle.std.specs.Prelude.{◌≡◌, ◌||◌, List, [], ◌∷◌, ℕ, length, eqb, ltb, Result, Ok, Err}
use Rattle.listing.specs.Limits.{ROUTINES, NODES}
use Rattle.listing.specs.Bytes.{record_at, bytes_of}
use Rattle.listing.specs.Rules.{Rule, rule, passed, refused, first_of}
use Rattle.listing.specs.Answer.{Answer, done, refusal, filled}
use Rattle.listing.specs.Reason.{refused_for}
use Rattle.listing.specs.declared.reason.Reason.{Reason}
use Rattle.grammar.specs.Tree.{Text, parts_of, size_of, nodes_of}
use Rattle.grammar.specs.Stands.{BadText, TreeOf}

-- "17 [..] before 5; then 5, 6 and 16": what is refused of a text that has the tree t, with a buffer of `room` bytes.
-- "a text without words is 5", as is one of more than 16 parts
unfoldable pub typed_rules : Text → ℕ → List Rule
typed_rules t room =
    rule (eqb (parts_of t) 0 || ltb ROUTINES (parts_of t)) 5 0
    ∷ rule (ltb NODES (size_of t)) 6 0
    ∷ rule (ltb room (record_at (size_of t))) 16 0
    ∷ []

-- "Output is the version 1 listing"
unfoldable pub listing_of : Text → List ℕ
listing_of t = bytes_of 1 (parts_of t) (nodes_of t)

-- the rules' number and values for each case of the answer: the length written, or the refusal
abbrev pub typed_says : Result ℕ Reason → Answer
typed_says (Ok n) = done 0 0 n
typed_says (Err r) = refused_for r

-- what is answered of the text s, and what the lent buffer, which held `old`, holds then
pub data Typed (s old : List ℕ) : Answer → List ℕ → Type 0 where
  bad : (p : ℕ) → BadText s p → Typed s old (refusal 17 p) old
  refuses : (t : Text) (k p : ℕ) → TreeOf s t → first_of (typed_rules t (length old)) ≡ refused k p → Typed s old (refusal k p) old
  writes : (t : Text) → TreeOf s t → first_of (typed_rules t (length old)) ≡ passed
      → Typed s old (done 0 0 (length (listing_of t))) (filled (listing_of t) old)
