-- What the writer makes of a text that has a tree: the nodes of the tree, whose numbers are bytes.
use mathlib.Core.Path.{◌≡◌, refl, sym, ap, ◌∙◌, subst}
use mathlib.Core.Logic.{inl, inr}
use mathlib.Core.List.{List, [], ◌∷◌}
use Prim.Native.Nat.{ℕ, ◌+◌, ◌<◌, ◌≤◌}
use native.Mathlib.Omega.{arith}
use Rattle.listing.specs.Limits.{ROUTINES, NODES}
use Rattle.listing.specs.Node.{Node, none, Listing}
use Rattle.order.specs.Rows.{All}
use Rattle.words.specs.Words.{Word, Token, meaning, words}
use Rattle.words.specs.Inner.Looking.{marks, unread}
use Rattle.grammar.specs.Tree.{Text, nothing, part, block_size, block_nodes, parts_of, size_of, nodes_of}
use Rattle.grammar.specs.Stands.{saying, TreeOf}
use Rattle.text.specs.Inner.Records.{Low}
use Rattle.text.specs.Inner.Pen.{tokens_of, tokens, pen, run, written}
use Rattle.text.proofs.Every.{all_both, all_apart}
use Rattle.text.proofs.Said.{Said, all_said}
use Rattle.text.proofs.Kinded.{Kinded, text_kinded}
use Rattle.text.proofs.Placed.{Leads, Placed, part_placed}
use Rattle.text.proofs.Run.{text_run}

-- the words by their marks
marked : (ws : List Word) → tokens_of (marks ws) ≡ saying ws
marked [] = refl
marked (w ∷ ws) = ap (λ (l : List Token). meaning w.bytes ∷ l) (marked ws)

-- ── Bytes ───────────────────────────────────────────────────────────────────
leads_low : (lo hi x : ℕ) → hi ≤ NODES → Leads lo hi x → x < 256
leads_low lo hi x few (inl e) = omega arith
leads_low lo hi x few (inr h) = omega (arith, h.1)

-- what holds of every node of two kinds of facts
every : {p q r : Node → Type 0} → ((m : Node) → p m → q m → r m) → (L : Listing) → All p L → All q L → All r L
every f [] h k = tt
every f (m ∷ L) h k = (f m h.0 k.0, every f L h.1 k.1)

low_node : (r lo hi : ℕ) → r < 256 → hi ≤ NODES → (m : Node) → Kinded m → Placed r lo hi m → Low m
low_node r lo hi small few m k at = record {
  routine = omega (arith, at.routine);
  kind = omega (arith, k.kind);
  first = leads_low lo hi m.first few at.first;
  second = leads_low lo hi m.second few at.second;
}

text_low : (t : Text) → parts_of t ≤ ROUTINES → size_of t ≤ NODES → All Kinded (nodes_of t) → All Low (nodes_of t)
text_low nothing parted few k = tt
text_low (part t b) parted few k =
    let r = parts_of t in
    let n = size_of t in
    let nodes = block_nodes b r n none in
    let (before, last) = all_apart Kinded (nodes_of t) nodes k in
    all_both Low (nodes_of t) nodes (text_low t (omega arith) (omega arith) before)
    (every (low_node r n (n + block_size b) (omega arith) few) nodes last (part_placed b r n (omega arith)))

module _ (s : List ℕ) (t : Text) (has : TreeOf s t) (few : size_of t ≤ NODES) where
  -- what is written are the nodes of the tree
  pub written_tree : written s ≡ nodes_of t
  unfolding written tokens unread words
  written_tree = ap (run (pen 0 0 0)) (marked (words s) ∙ sym has.words) ∙ text_run t has.within few

  -- AND THEIR NUMBERS ARE BYTES
  pub written_low : parts_of t ≤ ROUTINES → All Low (written s)
  unfolding words
  written_low parted =
      let said = subst (All Said) (sym has.words) (all_said (words s)) in
      subst (All Low) (sym written_tree) (text_low t parted few (text_kinded t said))
