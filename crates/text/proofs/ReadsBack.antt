-- What the promise writes is admitted by `read`, with the numbers of parts and nodes, and its nodes are those of the text's tree.
use mathlib.Core.Path.{◌≡◌, refl, sym, ap, ◌∙◌}
use mathlib.Core.List.{List}
use Prim.Native.Nat.{ℕ}
use native.Mathlib.Omega.{arith}
use lib.ListN.{length, take, drop}
use lib.Seq.{take_at}
use Rattle.listing.specs.Bytes.{bytes_of, nodes_of, count_f, count_n, record_at}
use Rattle.listing.specs.Rules.{Refusal}
use Rattle.listing.specs.Answer.{Answer, done}
use Rattle.listing.specs.Form.{read_by}
use Rattle.listing.proofs.RoundTrip.{bytes_length, read_written}
use Rattle.order.specs.Entered.{AllEntered}
use Rattle.reader.specs.Read.{Admitted, read_of}
use Rattle.reader.proofs.Admitted.{admitted_entered}
use Rattle.grammar.specs.Tree.{Text, parts_of, size_of, nodes_of as tree_nodes}
use Rattle.grammar.specs.Stands.{TreeOf}
use Rattle.grammar.proofs.Places.{tree_found}
use Rattle.text.specs.Typing.{Typed, bad, refuses, writes, listing_of}
use Rattle.text.proofs.Fits.{Fits, fits_exactly}
use Rattle.text.proofs.Admitted.{text_admitted}
use Rattle.text.proofs.Counts.{text_count}

-- a length is answered only where a tree that fits is written
record Wrote (s old : List ℕ) (n : ℕ) (new : List ℕ) : Type 0 where
  tree : Text
  has : TreeOf s tree
  fits : Fits tree (length old)
  count : length (listing_of tree) ≡ n
  listing : take n new ≡ listing_of tree

wrote : (s old new : List ℕ) (n : ℕ) → Typed s old (done 0 0 n) new → Wrote s old n new
wrote s old new n w = go (done 0 0 n) new w refl
  where
    go : (a : Answer) (l : List ℕ) → Typed s old a l → a ≡ done 0 0 n → Wrote s old n l
    go a l (bad p h) e = let z : ◌≡◌ {A = ℕ} 2 0 = ap (λ (x : Answer). x.kind) e in absurd (omega arith)
    go a l (refuses t k p h f) e = let z : ◌≡◌ {A = ℕ} 2 0 = ap (λ (x : Answer). x.kind) e in absurd (omega arith)
    go a l (writes t h f) e =
        let count = ap (λ (x : Answer). x.count) e in
        record {
          tree = t;
          has = h;
          fits = (fits_exactly t (length old)).0 f;
          count = count;
          listing = take_at (listing_of t) (drop (length (listing_of t)) old) n count;
        }

module _ (s old new : List ℕ) (n : ℕ) (w : Typed s old (done 0 0 n) new) where
  -- WHAT IS WRITTEN IS ADMITTED
  pub typed_admitted : Admitted (take n new)
  typed_admitted = let x = wrote s old new n w in rw x.listing (text_admitted s x.tree (length old) x.has x.fits)

  module _ (t : Text) (has : TreeOf s t) where
    -- the text has one tree
    same : (wrote s old new n w).tree ≡ t
    same =
        let found = tree_found s t has in
        let also = let x = wrote s old new n w in tree_found s x.tree x.has in
        cc

    listing : take n new ≡ listing_of t
    listing = (wrote s old new n w).listing ∙ ap listing_of same

    -- "exactly 7 + 6N bytes" are written
    pub typed_length : n ≡ record_at (size_of t)
    unfolding listing_of
    typed_length =
        sym (wrote s old new n w).count ∙ ap (λ (u : Text). length (listing_of u)) same
        ∙ bytes_length 1 (parts_of t) (tree_nodes t) ∙ ap record_at (text_count t)

    -- IT HOLDS THE NODES OF THE TREE
    pub typed_nodes : nodes_of (take n new) ≡ tree_nodes t
    unfolding listing_of
    typed_nodes = ap nodes_of listing ∙ read_written 1 (parts_of t) (tree_nodes t)

    -- `read` ANSWERS ITS NUMBER OF NODES AND, FOR F, ITS NUMBER OF PARTS
    pub typed_reads : read_of (take n new) ≡ done (size_of t) (parts_of t) 0
    unfolding read_of listing_of bytes_of
    typed_reads =
        ap (λ (r : Refusal). read_by r (count_n (take n new)) (count_f (take n new))) typed_admitted
        ∙ ap (λ (l : List ℕ). done (count_n l) (count_f l) 0) listing
        ∙ ap (λ (k : ℕ). done k (parts_of t) 0) (text_count t)

  -- EVERY NODE OF IT IS REACHED FROM THE ENTRY OF ITS ROUTINE
  pub typed_entered : AllEntered (nodes_of (take n new))
  typed_entered = admitted_entered (take n new) typed_admitted
