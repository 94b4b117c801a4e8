-- The rehearsed texts have the answers that the rules give: one table, one statement, computed.
use mathlib.Core.Path.{◌≡◌, refl, ap, ◌∙◌, subst}
use mathlib.Core.List.{List, [], ◌∷◌, map}
use Prim.Native.Nat.{ℕ}
use lib.ListN.{length}
use Rattle.listing.specs.Bytes.{bytes_of}
use Rattle.listing.specs.Answer.{Answer}
use Rattle.words.specs.Words.{is_blank, number, meaning}
use Rattle.words.specs.Inner.Looking.{unread}
use Rattle.order.specs.Rows.{All}
use Rattle.order.proofs.Lists.{in_all, all_in}
use Rattle.grammar.specs.Tree.{item_size, block_size, item_nodes, block_nodes}
use Rattle.grammar.specs.Inner.Reader.{parse}
use Rattle.text.specs.Typing.{typed_rules, listing_of, Typed}
use Rattle.text.specs.Cases.{Case, answered, holds, cases, Right}
use Rattle.text.proofs.Promise.{reply, by_rules, reply_right}

module _ (old : List ℕ) where
  -- what is worked out for a row, and what the row says
  abbrev worked : Case → Answer × List ℕ
  worked c = reply (parse c.text) c.room old

  abbrev said : Case → Answer × List ℕ
  said c = (answered c.outcome, holds c.outcome old)

  row_right : (c : Case) → length old ≡ c.room → worked c ≡ said c → Typed c.text old (answered c.outcome) (holds c.outcome old)
  row_right c e h =
      let room = ap (λ (n : ℕ). reply (parse c.text) n old) e in
      subst (λ (z : Answer × List ℕ). Typed c.text old z.0 z.1) (room ∙ h) (reply_right c.text old)

  -- what is computed: every row is what is worked out for it
  rows_same : map worked cases ≡ map said cases
  unfolding reply by_rules parse unread meaning number is_blank typed_rules listing_of bytes_of item_size block_size item_nodes block_nodes
  rows_same = refl

each : {A B : Type 0} (f g : A → B) (xs : List A) → map f xs ≡ map g xs → All (λ x. f x ≡ g x) xs
each f g [] e = tt
each f g (x ∷ xs) e =
    let first : f x ≡ g x = cc in
    let rest : map f xs ≡ map g xs = cc in
    (first, each f g xs rest)

-- EVERY ROW OF THE TABLE IS RIGHT
pub texts_right : All Right cases
texts_right =
    in_all Right cases
    (λ c i old e. row_right old c e (all_in (λ x. worked old x ≡ said old x) cases (each (worked old) (said old) cases (rows_same old)) c i))
