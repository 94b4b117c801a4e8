-- What the program writes of a text is one row of bytes.
use mathlib.Core.Path.{◌≡◌, sym, ap, ◌∙◌}
use mathlib.Core.List.{List}
use Prim.Native.Nat.{ℕ}
use Rattle.listing.specs.Limits.{NODES}
use Rattle.listing.specs.Bytes.{record_at}
use Rattle.listing.specs.Rules.{Refusal, passed, refused, first_of}
use Rattle.grammar.specs.Tree.{Text}
use Rattle.grammar.specs.Inner.Reader.{Outcome, tree, bad, parse}
use Rattle.grammar.proofs.Places.{tree_found, bad_found}
use Rattle.text.specs.Typing.{typed_rules, listing_of}
use Rattle.say.specs.Lines.{refusal_line}
use Rattle.say.proofs.Once.{lined_once}
use Rattle.typing.specs.Output.{TypedOutput, bad as bad-text, refuses, writes, TypedPromise}

by_rules : Refusal → Text → List ℕ
by_rules passed t = listing_of t
by_rules (refused k p) t = refusal_line k p

output_of : Outcome → List ℕ
output_of (tree t) = by_rules (first_of (typed_rules t (record_at NODES))) t
output_of (bad p) = refusal_line 17 p

is_output : (s out : List ℕ) → TypedOutput s out → out ≡ output_of (parse s)
unfolding output_of by_rules
is_output s out (bad-text p b) = sym (ap output_of (bad_found s p b))
is_output s out (refuses t k p r e) = sym (ap output_of (tree_found s t r) ∙ ap (λ (x : Refusal). by_rules x t) e)
is_output s out (writes t r e) = sym (ap output_of (tree_found s t r) ∙ ap (λ (x : Refusal). by_rules x t) e)

-- THE PROGRAM WRITES ONE ROW OF BYTES
pub output_once : (s a b : List ℕ) → TypedOutput s a → TypedOutput s b → a ≡ b
output_once s a b x y = is_output s a x ∙ sym (is_output s b y)

-- ONE ANSWER AND ONE CONTENT
pub typed_says_once : (s old new new' : List ℕ) (r r' : ℕ) → TypedPromise s old new r → TypedPromise s old new' r' → (r ≡ r') × (new ≡ new')
typed_says_once s old new new' r r' h k = lined_once (output_once s h.0 k.0 h.1 k.1) h.2 k.2
