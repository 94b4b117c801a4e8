-- Which trees are written: those of 1 to 16 parts and at most 128 nodes, where the buffer has room.
use mathlib.Core.Path.{◌≡◌}
use mathlib.Core.Logic.{◌↔◌}
use Prim.Native.Nat.{ℕ, ◌≤◌}
use native.Mathlib.Omega.{arith}
use lib.Dec.{eqb, ltb}
use borrow.Author.Tests.{ne_eqb, eqb-false, le-ltb, ltb-false}
use Rattle.listing.specs.Limits.{ROUTINES, NODES}
use Rattle.listing.specs.Bytes.{record_at}
use Rattle.listing.specs.Rules.{passed, first_of}
use Rattle.listing.proofs.Bools.{or_neither, neither_or}
use Rattle.listing.proofs.Table.{none_applies, lets_pass}
use Rattle.grammar.specs.Tree.{Text, parts_of, size_of}
use Rattle.grammar.specs.declared.Size.{Size}
use Rattle.text.specs.Typing.{typed_rules}
use Rattle.text.specs.Inner.Counted.{count_rules}

-- so many parts and nodes are written into so many bytes
pub record Fitting (size : Size) (room : ℕ) : Type 0 where
  pub some : 1 ≤ size.parts
  pub routines : size.parts ≤ ROUTINES
  pub nodes : size.nodes ≤ NODES
  pub long : record_at size.nodes ≤ room

pub counts_fit : (size : Size) (room : ℕ) → first_of (count_rules size room) ≡ passed → Fitting size room
unfolding count_rules
counts_fit size room e =
    let o = none_applies (count_rules size room) e in
    let five = or_neither (eqb size.parts 0) (ltb ROUTINES size.parts) o.0 in
    let some = eqb-false size.parts 0 five.0 in
    record {
      some = omega arith;
      routines = ltb-false ROUTINES size.parts five.1;
      nodes = ltb-false NODES size.nodes o.1.0;
      long = ltb-false room (record_at size.nodes) o.1.1.0;
    }

pub record Fits (t : Text) (room : ℕ) : Type 0 where
  pub some : 1 ≤ parts_of t
  pub routines : parts_of t ≤ ROUTINES
  pub nodes : size_of t ≤ NODES
  pub long : record_at (size_of t) ≤ room

-- NOTHING IS REFUSED OF A TREE EXACTLY IF IT FITS
pub fits_exactly : (t : Text) (room : ℕ) → (first_of (typed_rules t room) ≡ passed) ↔ Fits t room
unfolding typed_rules count_rules
fits_exactly t room = (fit, pass)
  where
    fit : first_of (typed_rules t room) ≡ passed → Fits t room
    fit e =
        let f = counts_fit (record { parts = parts_of t; nodes = size_of t }) room e in
        record { some = f.some; routines = f.routines; nodes = f.nodes; long = f.long }

    pass : Fits t room → first_of (typed_rules t room) ≡ passed
    pass h =
        let five = neither_or _ _ (ne_eqb (parts_of t) 0 (λ z. omega arith)) (le-ltb ROUTINES (parts_of t) h.routines) in
        lets_pass (typed_rules t room) (five, (le-ltb NODES (size_of t) h.nodes, (le-ltb room (record_at (size_of t)) h.long, tt)))
