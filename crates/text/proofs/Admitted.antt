-- The listing of a typed text is admitted by `read`.
use mathlib.Core.Path.{◌≡◌, sym, subst, ◌∙◌}
use mathlib.Core.Logic.{◌≢◌, ◌⊎◌, inl, inr}
use mathlib.Core.List.{List}
use Prim.Native.Nat.{ℕ, ◌+◌, ◌<◌, ◌≤◌}
use native.Mathlib.Omega.{arith}
use Rattle.listing.specs.Limits.{NODES}
use Rattle.listing.specs.Node.{Node, none, node, blank}
use Rattle.listing.specs.Valid.{Goes, NodeOk, Valid}
use Rattle.words.specs.Words.{words}
use Rattle.order.specs.Rows.{All}
use Rattle.reader.specs.Read.{Admitted}
use Rattle.reader.proofs.Admitted.{valid_admitted}
use Rattle.grammar.specs.Tree.{Text, Block, part, words_of, block_size, parts_of, size_of, nodes_of}
use Rattle.grammar.specs.Stands.{TreeOf}
use Rattle.text.specs.Typing.{listing_of}
use Rattle.text.specs.Parted.{StartsWith}
use Rattle.text.proofs.Every.{all_at}
use Rattle.text.proofs.Said.{Said, all_said}
use Rattle.text.proofs.Kinded.{Kinded, text_kinded}
use Rattle.text.proofs.Placed.{Leads, Placed}
use Rattle.text.proofs.PartNodes.{part_of, begins_parts, begins_size, placed_at}
use Rattle.text.proofs.Fits.{Fits}
use Rattle.text.proofs.Counts.{text_count}
use Rattle.text.proofs.Reached.{text_entered}

module _ (t : Text) (few : size_of t ≤ NODES) {u : Text} {b : Block} (p : StartsWith t (part u b)) where
  -- a successor within the part is a node of its routine
  goes : (m : Node) → m.routine ≡ parts_of u → (x : ℕ) → Leads (size_of u) (size_of u + block_size b) x → Goes (nodes_of t) m x
  goes m r x (inl e) = inl e
  goes m r x (inr h) = inr (omega (arith, h.1, text_count t, begins_size p), (placed_at p few x h).routine ∙ sym r)

  -- of two successors the first is one
  first_some : (x y : ℕ) → Leads (size_of u) (size_of u + block_size b) y → (y ≡ none) ⊎ (x < y) → (y ≡ none) ⊎ ((x ≢ none) × (x < y))
  first_some x y s (inl e) = inl e
  first_some x y (inl e) (inr l) = inl e
  first_some x y (inr h) (inr l) = inr (λ z. omega (arith, h.1, begins_size p), l)

  node_ok : (m : Node) → Kinded m → Placed (parts_of u) (size_of u) (size_of u + block_size b) m → NodeOk 1 (parts_of t) (nodes_of t) m
  node_ok m k at = record {
    routine = omega (arith, at.routine, begins_parts p);
    kind = k.kind;
    location = k.location;
    first = goes m at.routine m.first at.first;
    second = goes m at.routine m.second at.second;
    order = first_some m.first m.second at.second at.order;
  }

text_valid : (t : Text) → size_of t ≤ NODES → All Said (words_of t) → Valid 1 (parts_of t) (nodes_of t)
text_valid t few said a l =
    let p = part_of t a (let c = text_count t in omega arith) in
    let kinded = all_at Kinded (nodes_of t) (text_kinded t said) blank a l in
    node_ok t few p.begins (node (nodes_of t) a) kinded (placed_at p.begins few a p.there)

-- THE LISTING OF A TEXT IS ADMITTED
pub text_admitted : (s : List ℕ) (t : Text) (room : ℕ) → TreeOf s t → Fits t room → Admitted (listing_of t)
unfolding words listing_of
text_admitted s t room h f =
    let said = subst (All Said) (sym h.words) (all_said (words s)) in
    valid_admitted 1 (parts_of t) (nodes_of t) tt f.some f.routines (let c = text_count t in omega arith) (text_valid t f.nodes said)
    (text_entered t f.nodes)
