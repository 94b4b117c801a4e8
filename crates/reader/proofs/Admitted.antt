-- What an admitted listing is: its form is right, and every node is entered; and conversely.
use mathlib.Core.Path.{◌≡◌, sym, subst, ◌∙◌}
use mathlib.Core.Logic.{inl, inr}
use mathlib.Core.List.{List}
use Prim.Native.Nat.{ℕ, ◌≤◌, ◌<◌}
use native.Mathlib.Omega.{arith}
use lib.Dec.{T}
use lib.ListN.{length}
use Rattle.listing.specs.Limits.{ROUTINES, NODES}
use Rattle.listing.specs.Kinds.{is_version}
use Rattle.listing.specs.Node.{none, Listing, node}
use Rattle.listing.specs.Bytes.{version_of, count_f, count_n, nodes_of, bytes_of}
use Rattle.listing.specs.Form.{form_rules, Formed}
use Rattle.listing.specs.Valid.{Headed, Goes, Valid}
use Rattle.listing.specs.Inner.Whole.{Whole}
use Rattle.listing.proofs.Table.{pass, pass_first, pass_then, none_applies}
use Rattle.listing.proofs.Nodes.{nodes_length}
use Rattle.listing.proofs.Headed.{formed_headed}
use Rattle.listing.proofs.Forming.{formed_whole}
use Rattle.listing.proofs.Valid.{formed_valid, valid_formed}
use Rattle.listing.proofs.RoundTrip.{read_written}
use Rattle.order.specs.Walks.{Succ}
use Rattle.order.specs.Entered.{AllEntered}
use Rattle.reader.specs.Read.{dead_rules, read_rules, Admitted}
use Rattle.reader.specs.Inner.Search.{Housed}
use Rattle.reader.proofs.Dead.{rows_none, none_rows}

module _ (s : List ℕ) where
  pub admitted_formed : Admitted s → Formed s
  unfolding read_rules
  admitted_formed e = pass_first (form_rules s) (dead_rules (nodes_of s) 0 (count_n s)) e

  -- EVERY NODE OF AN ADMITTED LISTING IS ENTERED
  pub admitted_entered : Admitted s → AllEntered (nodes_of s)
  unfolding read_rules
  admitted_entered e a h =
      let rest = pass_then (form_rules s) (dead_rules (nodes_of s) 0 (count_n s)) e in
      none_rows (nodes_of s) 0 (count_n s) (none_applies (dead_rules (nodes_of s) 0 (count_n s)) rest) a (omega arith) (omega (arith, nodes_length s))

  -- AND A LISTING OF RIGHT FORM WHOSE NODES ALL ARE IS ADMITTED
  pub entered_admitted : Formed s → AllEntered (nodes_of s) → Admitted s
  unfolding read_rules
  entered_admitted e f =
      pass (form_rules s) (dead_rules (nodes_of s) 0 (count_n s)) e
      ∙ rows_none (nodes_of s) 0 (count_n s) (λ z l h. f z (omega (arith, nodes_length s)))

  -- what it has by its form
  pub admitted_headed : Admitted s → Headed s
  admitted_headed e = formed_headed s (admitted_formed e)

  pub admitted_whole : Admitted s → Whole s
  admitted_whole e = formed_whole s (admitted_formed e)

  pub admitted_valid : Admitted s → Valid (version_of s) (count_f s) (nodes_of s)
  admitted_valid e = formed_valid s (admitted_formed e)

  -- what the search stands on
  pub formed_housed : Formed s → Housed s
  formed_housed e = record {
    low = λ a h. (let few = (formed_headed s e).routines in omega (arith, few, (valid a (omega (arith, nodes_length s))).routine));
    home = home;
  }
    where
      valid : Valid (version_of s) (count_f s) (nodes_of s)
      valid = formed_valid s e

      -- a successor that is a node is of the same routine
      goes : (a x y : ℕ) → y < length (nodes_of s) → x ≡ y → Goes (nodes_of s) (node (nodes_of s) a) x → (node (nodes_of s) y).routine ≡
          (node (nodes_of s) a).routine
      goes a x y l same (inl none) = let few = (formed_whole s e).few in absurd (omega (arith, few, nodes_length s, same, none))
      goes a x y l same (inr g) = subst (λ (z : ℕ). (node (nodes_of s) z).routine ≡ (node (nodes_of s) a).routine) same g.1

      home : (a b : ℕ) → Succ (nodes_of s) a b → (node (nodes_of s) b).routine ≡ (node (nodes_of s) a).routine
      home a b (h, l, inl same) = goes a (node (nodes_of s) a).first b l same (valid a h).first
      home a b (h, l, inr same) = goes a (node (nodes_of s) a).second b l same (valid a h).second

-- THE BYTES OF VALID NODES THAT ALL ARE ENTERED ARE ADMITTED
pub valid_admitted : (v f : ℕ) (L : Listing) → T (is_version v) → 1 ≤ f → f ≤ ROUTINES → length L ≤ NODES → Valid v f L → AllEntered L
    → Admitted (bytes_of v f L)
valid_admitted v f L is low high few valid entered =
    entered_admitted (bytes_of v f L) (valid_formed v f L is low high few valid) (subst AllEntered (sym (read_written v f L)) entered)
