-- The service's ways out: the text is bad, it is refused by its counts, or its listing is written.
use mathlib.Core.Path.{◌≡◌, sym, ap, ◌∙◌, subst}
use mathlib.Core.List.{List}
use Prim.Native.Nat.{ℕ, ◌<◌}
use native.Mathlib.Omega.{arith}
use lib.ListN.{length}
use lib.Seq.{sets, length-sets}
use Rattle.listing.specs.Bytes.{record_at, heading_bytes, nodes_bytes, bytes_of}
use Rattle.std.specs.Prelude.{Ok, Err}
use Rattle.listing.specs.Rules.{passed, refused, first_of}
use Rattle.listing.specs.Reason.{number, place, refused_for}
use Rattle.listing.specs.declared.reason.Reason.{Reason}
use Rattle.listing.specs.Answer.{done, filled}
use Rattle.listing.proofs.Stores.{sets_append, fills}
use Rattle.listing.proofs.RoundTrip.{bytes_length}
use Rattle.grammar.specs.Tree.{Text, size_of, parts_of, nodes_of}
use Rattle.grammar.specs.Inner.Reader.{TextRead}
use Rattle.grammar.specs.declared.Size.{Size}
use Rattle.grammar.proofs.Places.{found_tree, found_bad}
use Rattle.text.specs.Typing.{typed_rules, listing_of, Typed, bad as bad-text, refuses, writes}
use Rattle.text.specs.Inner.Records.{HoldsNodes}
use Rattle.text.specs.Inner.Writer.{TextWritten}
use Rattle.text.specs.Inner.Counted.{count_rules}
use Rattle.text.proofs.Counts.{text_count}
use Rattle.text.proofs.Fits.{fits_exactly}
use Rattle.text.proofs.Made.{written_tree, written_low}

-- the rules of a tree are those of its counts
counted : (t : Text) (size : Size) (room : ℕ) → parts_of t ≡ size.parts → size_of t ≡ size.nodes → typed_rules t room ≡ count_rules size room
unfolding typed_rules count_rules
counted t size room parts nodes = rw (parts, nodes)

-- 17: the text is bad
pub bad_typed : {s old : List ℕ} (r : Reason) → TextRead s (Err r) → Typed s old (refused_for r) old
bad_typed {s} {old} r (p, is, f) = rw is (bad-text p (found_bad s p f))

module _ {s old : List ℕ} (size : Size) (x : TextRead s (Ok size)) where
  -- it is refused by its counts
  pub refused_typed : (r : Reason) → first_of (count_rules size (length old)) ≡ refused (number r) (place r) → Typed s old (refused_for r) old
  refused_typed r e =
      let (t, parts, nodes, same) = x in
      refuses t (number r) (place r) (found_tree s t same) (ap first_of (counted t size (length old) parts nodes) ∙ e)

  -- THE LISTING IS WRITTEN
  pub full_typed : {g m : ℕ} {mid new : List ℕ} → first_of (count_rules size (length old)) ≡ passed → (size.parts < 256 → g ≡ size.parts)
      → (size.nodes < 256 → m ≡ size.nodes) → mid ≡ sets old 0 (heading_bytes 1 g m) → TextWritten s mid new
      → Typed s old (done 0 0 (record_at size.nodes)) new
  unfolding listing_of bytes_of
  full_typed {g} {m} {mid} {new} none low-f low-n heading w =
      let (t, parts, nodes, same) = x in
      let has = found_tree s t same in
      let passes = ap first_of (counted t size (length old) parts nodes) ∙ none in
      let fits = (fits_exactly t (length old)).0 passes in
      let count = text_count t in
      let parted = fits.routines in
      let few = fits.nodes in
      let long = fits.long in
      let made = written_tree s t has (omega arith) in
      let kept = ap length heading ∙ length-sets old 0 (heading_bytes 1 g m) in
      let f-is : g ≡ parts_of t = low-f (omega arith) ∙ sym parts in
      let n-is : m ≡ length (nodes_of t) = low-n (omega arith) ∙ omega arith in
      let size-is : length (listing_of t) ≡ record_at size.nodes = bytes_length 1 (parts_of t) (nodes_of t) ∙ ap record_at (count ∙ nodes) in
      let held : HoldsNodes mid new 0 (nodes_of t) =
      subst (HoldsNodes mid new 0) made (w.wrote.bytes (rw made (omega arith)) (written_low s t has (omega arith) (omega arith))) in
      let put : new ≡ filled (listing_of t) old =
      held.bytes
      ∙ rw (heading, f-is, n-is) (sym (sets_append old (heading_bytes 1 (parts_of t) (length (nodes_of t))) (nodes_bytes (nodes_of t)) 0))
      ∙ fills (listing_of t) old (omega arith) in
      rw (put, ← size-is) (writes t has passes)
