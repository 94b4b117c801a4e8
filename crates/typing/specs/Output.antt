-- What the program `typed` writes, of the whole text.
use Rattle.std.specs.Prelude.{◌≡◌, List, ℕ}
use Rattle.listing.specs.Limits.{NODES}
use Rattle.listing.specs.Bytes.{record_at}
use Rattle.listing.specs.Rules.{passed, refused, first_of}
use Rattle.grammar.specs.Tree.{Text}
use Rattle.grammar.specs.Stands.{BadText, TreeOf}
use Rattle.text.specs.Typing.{typed_rules, listing_of}
use Rattle.say.specs.Lines.{refusal_line, Lined}

-- "the listing's bytes on standard output, or the line `REFUSED number place`". The program lends as many bytes as the longest listing
-- has itself, so 16 is never met
pub data TypedOutput (s : List ℕ) : List ℕ → Type 0 where
  bad : (p : ℕ) → BadText s p → TypedOutput s (refusal_line 17 p)
  refuses : (t : Text) (k p : ℕ) → TreeOf s t → first_of (typed_rules t (record_at NODES)) ≡ refused k p → TypedOutput s (refusal_line k p)
  writes : (t : Text) → TreeOf s t → first_of (typed_rules t (record_at NODES)) ≡ passed → TypedOutput s (listing_of t)

-- THE PROMISE, of the whole text, the buffer before and after, and the answer
abbrev pub TypedPromise : List ℕ → List ℕ → List ℕ → ℕ → Type 0
TypedPromise s old new r = (out : List ℕ) × TypedOutput s out × Lined out old new r

-- as long a text as the program reads, 1 MiB
abbrev pub TEXT : ℕ
TEXT = 1048576
