-- Every node of a typed text is its routine's entry, or a walk leads to it from there.
use mathlib.Core.Path.{◌≡◌, refl, sym, ap, ◌∙◌}
use mathlib.Core.Logic.{inl, inr}
use mathlib.Core.List.{[], ◌∷◌, ◌++◌}
use Prim.Native.Nat.{ℕ, ◌+◌, ◌<◌, ◌≤◌}
use native.Mathlib.Omega.{arith}
use native.Mathlib.Decide.{dec_lt}
use lib.ListN.{length}
use Rattle.listing.specs.Limits.{NODES}
use Rattle.listing.specs.Kinds.{PLAIN}
use Rattle.listing.specs.Node.{Node, none, Listing, node}
use Rattle.order.specs.Walks.{Next}
use Rattle.order.specs.Entered.{EntryOf, Reached, AllEntered}
use Rattle.order.proofs.Entering.{reached_join}
use Rattle.grammar.specs.Tree.{Item, access, fence, loop, either, Block, one, also, Text, part, item_size, block_size, item_nodes, block_nodes}
use Rattle.grammar.specs.Tree.{made, plain, parts_of, size_of, nodes_of}
use Rattle.grammar.proofs.Sizes.{item_some, block_some}
use Rattle.text.specs.Parted.{StartsWith}
use Rattle.text.proofs.Every.{of_plain}
use Rattle.text.proofs.Placed.{Among}
use Rattle.text.proofs.PartNodes.{Has, has_front, has_back, begins_size, part_of, part_has, placed_at, text_parted}
use Rattle.text.proofs.Counts.{block_count, text_count}

-- a plain node leads to both
plain_next : (r a b : ℕ) → Next (plain r a b) a × Next (plain r a b) b
plain_next r a b = of_plain (λ m. Next m a × Next m b) r a b (λ _. (inl refl, inr refl)) (λ _. (inr refl, inl refl))

module _ (L : Listing) where
  step : {a b : ℕ} → a < length L → b < length L → Next (node L a) b → Reached L a b
  step ha hb h = inr ([], (ha, hb, h))

  has_first : {n : ℕ} {m : Node} {M : Listing} → Has L n (m ∷ M) → node L n ≡ m
  has_first {n} h = let e : n ≡ n + 0 = omega arith in ap (node L) e ∙ h.at 0 (omega arith)

  has_rest : {n : ℕ} {m : Node} {M : Listing} → Has L n (m ∷ M) → Has L (n + 1) M
  has_rest {n} {m} {M} h = has_back (m ∷ []) M refl h

  -- from node n on all of `size` nodes are reached, and where their end leads
  record Whole (n size next : ℕ) : Type 0 where
    all : (x : ℕ) → n ≤ x → x < n + size → Reached L n x
    ends : next < length L → Reached L n next

  one_whole : (n next : ℕ) → n < length L → Next (node L n) next → Whole n 1 next
  one_whole n next l h = record { all = λ x a b. inl (omega arith); ends = λ k. step l k h }

  loop_whole : (n r b next : ℕ) → n + (b + 1) ≤ length L → 1 ≤ b → node L n ≡ plain r (n + 1) next → Whole (n + 1) b n → Whole n (b + 1) next
  loop_whole n r b next fit some e w = record { all = λ x p q. go x p q (dec_lt n x); ends = λ h. step (omega arith) h leads.1 }
    where
      leads : Next (node L n) (n + 1) × Next (node L n) next
      leads = rw e (plain_next r (n + 1) next)

      go : (x : ℕ) → n ≤ x → x < n + (b + 1) → Dec (n < x) → Reached L n x
      go x p q (yes h) = reached_join L (step (omega arith) (omega arith) leads.0) (w.all x (omega arith) (omega arith))
      go x p q (no h) = inl (omega arith)

  either_whole : (n r b c next : ℕ) → n + (b + c + 2) ≤ length L → 1 ≤ b → 1 ≤ c → node L n ≡ plain r (n + 1) (n + 1 + b)
      → Whole (n + 1) b (n + 1 + b + c) → Whole (n + 1 + b) c (n + 1 + b + c) → Whole (n + 1 + b + c) 1 next → Whole n (b + c + 2) next
  either_whole n r b c next fit sb sc e w v u = record {
    all = λ x p q. go x p q (dec_lt n x) (dec_lt x (n + 1 + b)) (dec_lt x (n + 1 + b + c));
    ends = λ h. reached_join L meet (u.ends h);
  }
    where
      leads : Next (node L n) (n + 1) × Next (node L n) (n + 1 + b)
      leads = rw e (plain_next r (n + 1) (n + 1 + b))

      first : Reached L n (n + 1)
      first = step (omega arith) (omega arith) leads.0

      meet : Reached L n (n + 1 + b + c)
      meet = reached_join L first (w.ends (omega arith))

      go : (x : ℕ) → n ≤ x → x < n + (b + c + 2) → Dec (n < x) → Dec (x < n + 1 + b) → Dec (x < n + 1 + b + c) → Reached L n x
      go x p q (no h) d1 d2 = inl (omega arith)
      go x p q (yes h) (yes k) d2 = reached_join L first (w.all x (omega arith) k)
      go x p q (yes h) (no k) (yes j) = reached_join L (step (omega arith) (omega arith) leads.1) (v.all x (omega arith) j)
      go x p q (yes h) (no k) (no j) = reached_join L meet (u.all x (omega arith) (omega arith))

  also_whole : (n b i next : ℕ) → n + b < length L → Whole n b (n + b) → Whole (n + b) i next → Whole n (b + i) next
  also_whole n b i next fit w v = record { all = λ x p q. go x p q (dec_lt x (n + b)); ends = λ h. reached_join L (w.ends fit) (v.ends h) }
    where
      go : (x : ℕ) → n ≤ x → x < n + (b + i) → Dec (x < n + b) → Reached L n x
      go x p q (yes h) = w.all x p h
      go x p q (no h) = reached_join L (w.ends fit) (v.all x (omega arith) (omega arith))

  mutual
    unfolding item_nodes block_nodes item_size block_size

    item_whole : (i : Item) (r n next : ℕ) → n + item_size i ≤ length L → Has L n (item_nodes i r n next) → Whole n (item_size i) next
    item_whole (access k l) r n next fit h = one_whole n next (omega arith) (rw (has_first h) (inl refl))
    item_whole fence r n next fit h = one_whole n next (omega arith) (rw (has_first h) (inl refl))
    item_whole (loop b) r n next fit h =
        loop_whole n r (block_size b) next fit (block_some b) (has_first h)
        (block_whole b r (n + 1) n (omega arith) (has_rest h))
    item_whole (either b c) r n next fit h =
        let m = n + 1 + block_size b in
        let end = m + block_size c in
        let B = block_nodes b r (n + 1) end in
        let C = block_nodes c r m end in
        let D = made r PLAIN 0 next none ∷ [] in
        let at_b = has_rest h in
        let at_c = has_back B (C ++ D) (block_count b r (n + 1) end) at_b in
        let at-d = has_back C D (block_count c r m end) at_c in
        either_whole n r (block_size b) (block_size c) next fit (block_some b) (block_some c) (has_first h)
        (block_whole b r (n + 1) end (omega arith) (has_front B (C ++ D) at_b))
        (block_whole c r m end (omega arith) (has_front C D at_c))
        (one_whole end next (omega arith) (rw (has_first at-d) (inl refl)))

    block_whole : (b : Block) (r n next : ℕ) → n + block_size b ≤ length L → Has L n (block_nodes b r n next) → Whole n (block_size b) next
    block_whole (one i) r n next fit h = item_whole i r n next fit h
    block_whole (also b i) r n next fit h =
        let some : 1 ≤ item_size i = item_some i in
        let m = n + block_size b in
        let B = block_nodes b r n m in
        let I = item_nodes i r m next in
        also_whole n (block_size b) (item_size i) next (omega arith)
        (block_whole b r n m (omega arith) (has_front B I h))
        (item_whole i r m next (omega arith) (has_back B I (block_count b r n m) h))

module _ (t : Text) (few : size_of t ≤ NODES) {u : Text} {b : Block} (p : StartsWith t (part u b)) (a : ℕ)
    (h : Among (size_of u) (size_of u + block_size b) a) where
  -- a part's first node is its routine's entry
  part_entry : EntryOf (nodes_of t) (node (nodes_of t) a).routine (size_of u)
  part_entry =
      let some : 1 ≤ block_size b = block_some b in
      let here = (placed_at p few a h).routine in
      record {
        within = omega (arith, text_count t, begins_size p);
        own = (placed_at p few (size_of u) (omega arith, omega arith)).routine ∙ sym here;
        lowest = λ x l e. let low = ((text_parted t few u b p x (omega (arith, begins_size p))).0 (e ∙ here)).0 in omega arith;
      }

  part_reached : Reached (nodes_of t) (size_of u) a
  part_reached = (block_whole (nodes_of t) b (parts_of u) (size_of u) none (omega (arith, text_count t, begins_size p)) (part_has p)).all a h.0 h.1

-- EVERY NODE IS REACHED FROM THE ENTRY OF ITS ROUTINE
pub text_entered : (t : Text) → size_of t ≤ NODES → AllEntered (nodes_of t)
text_entered t few a l =
    let p = part_of t a (let c = text_count t in omega arith) in
    (size_of p.before, part_entry t few p.begins a p.there, part_reached t few p.begins a p.there)
