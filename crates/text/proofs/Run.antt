-- The flat writer over the words of a tree makes the nodes of the tree.
use mathlib.Core.Path.{◌≡◌, refl, sym, ap, ◌∙◌, subst}
use mathlib.Core.List.{List, [], ◌∷◌, ◌++◌, append_assoc, append-nil}
use Prim.Native.Nat.{ℕ, zero, suc, ◌+◌, ◌-◌, ◌/◌, ◌%◌, ◌<◌, ◌≤◌}
use native.Mathlib.Omega.{arith}
use borrow.Author.Tests.{ne_eqb, eq-eqb, lt-ltb, le-ltb}
use Rattle.listing.specs.Kinds.{PLAIN}
use Rattle.listing.specs.Limits.{NODES}
use Rattle.listing.specs.Node.{Listing}
use Rattle.words.specs.Words.{Token, Routine, Either, Open, Close}
use Rattle.grammar.specs.Tree.{Item, access, fence, loop, either, Block, one, also, Text, nothing, part, item_words, block_words, words_of, plain}
use Rattle.grammar.specs.Tree.{item_size, block_size, parts_of, size_of, item_nodes, block_nodes, nodes_of, ItemWithin, BlockWithin, TextWithin, DEPTH}
use Rattle.grammar.proofs.Sizes.{block_some}
use Rattle.text.specs.Inner.Records.{alone}
use Rattle.text.specs.Inner.Pen.{exit_of, inside, follows, pen, nodes_at, closed, after, run}
use Rattle.text.proofs.BlockPast.{braces_past}
use Rattle.text.proofs.Exits.{limit, limit_eight, inside_room, inside_top, inside_outer, inside_exit}

-- ── The end of a block ──────────────────────────────────────────────────────
module _ (r n k : ℕ) (ws : List Token) where
  ends_part : k ≡ 0 → run (pen r n k) (Close ∷ ws) ≡ run (pen (r + 1) n 0) ws
  unfolding nodes_at after closed
  ends_part e = rw (e, ne_eqb 0 (n + 1) (λ z. omega arith))

  ends_second : k % 256 ≡ n + 1 → run (pen r n k) (Close ∷ ws) ≡ alone r PLAIN 0 (follows (k / 256) (n + 1) ws) ++ run (pen r (n + 1) (k / 256)) ws
  unfolding nodes_at after closed
  ends_second e = rw (ne_eqb k 0 (λ z. omega arith), eq-eqb (k % 256) (n + 1) e)

  ends_loop : 0 < k % 256 → k % 256 ≤ n → run (pen r n k) (Close ∷ ws) ≡ run (pen r n (k / 256)) ws
  unfolding nodes_at after closed
  ends_loop some h =
      rw (ne_eqb k 0 (λ z. omega arith), ne_eqb (k % 256) (n + 1) (λ z. omega arith), lt-ltb (k % 256) (n + 1) (omega arith))

  ends_first : n + 1 < k % 256 → run (pen r n k) (Close ∷ ws) ≡ run (pen r n k) ws
  unfolding nodes_at after closed
  ends_first h =
      rw (ne_eqb k 0 (λ z. omega arith), ne_eqb (k % 256) (n + 1) (λ z. omega arith), le-ltb (k % 256) (n + 1) (omega arith))

-- ── Loops and eithers, where their blocks are written ───────────────────────
-- what the words of a block b make that is entered with the exits k, and before ws
abbrev Written : Block → ℕ → ℕ → ℕ → List Token → Type 0
Written b r n k ws = run (pen r n k) (block_words b ++ ws) ≡ block_nodes b r n (follows k (n + block_size b) ws) ++ run (pen r (n + block_size b) k) ws

either_words : (b c : Block) (ws : List Token)
    → item_words (either b c) ++ ws ≡ Either ∷ Open ∷ (block_words b ++ (Close ∷ Open ∷ (block_words c ++ (Close ∷ ws))))
unfolding item_words
either_words b c ws = simp append_assoc

either_nodes_lem : (b c : Block) (r n next : ℕ) (L : Listing) → let meet = n + 1 + block_size b + block_size c in
    item_nodes (either b c) r n next ++ L
    ≡ plain r (n + 1) (n + 1 + block_size b)
    ∷ (block_nodes b r (n + 1) meet ++ (block_nodes c r (n + 1 + block_size b) meet ++ (alone r PLAIN 0 next ++ L)))
unfolding item_nodes
either_nodes_lem b c r n next L =
    let meet = n + 1 + block_size b + block_size c in
    let B = block_nodes b r (n + 1) meet in
    let C = block_nodes c r (n + 1 + block_size b) meet in
    let D = alone r PLAIN 0 next in
    ap (λ (l : Listing). plain r (n + 1) (n + 1 + block_size b) ∷ l)
    (append_assoc B (C ++ D) L ∙ ap (λ (l : Listing). B ++ l) (append_assoc C D L))

module _ (d r n k : ℕ) (ws : List Token) (room : k < limit (suc d)) where
  loop_run : (b : Block) → n + (block_size b + 1) ≤ NODES → Written b r (n + 1) (inside k (n + 1)) (Close ∷ ws)
      → run (pen r n k) (item_words (loop b) ++ ws)
      ≡ item_nodes (loop b) r n (follows k (n + (block_size b + 1)) ws) ++ run (pen r (n + (block_size b + 1)) k) ws
  unfolding item_words item_nodes nodes_at after
  loop_run b few body =
      let size : n + 1 + block_size b ≡ n + (block_size b + 1) = omega arith in
      let top = inside_top d k (n + 1) room (omega arith) in
      let leads : exit_of (inside k (n + 1)) ≡ n = inside_exit d k (n + 1) room (omega arith) (omega arith) ∙ omega arith in
      let ends = ends_loop r (n + 1 + block_size b) (inside k (n + 1)) ws (omega arith) (omega arith) in
      let outer = inside_outer d k (n + 1) room (omega arith) in
      rw (append_assoc, braces_past b n ws, body, ends, leads, outer, size)

  either_run : (b c : Block) → n + (block_size b + block_size c + 2) ≤ NODES → let x = n + 1 + block_size b + 1 + block_size c in
      Written b r (n + 1) (inside k x) (Close ∷ Open ∷ (block_words c ++ (Close ∷ ws)))
      → Written c r (n + 1 + block_size b) (inside k x) (Close ∷ ws)
      → run (pen r n k) (item_words (either b c) ++ ws)
      ≡ item_nodes (either b c) r n (follows k (n + (block_size b + block_size c + 2)) ws) ++ run (pen r (n + (block_size b + block_size c + 2)) k) ws
  unfolding nodes_at after
  either_run b c few body other =
      let x = n + 1 + block_size b + 1 + block_size c in
      let meet = n + 1 + block_size b + block_size c in
      let some : 1 ≤ block_size c = block_some c in
      let size : meet + 1 ≡ n + (block_size b + block_size c + 2) = omega arith in
      let top = inside_top d k x room (omega arith) in
      let leads : exit_of (inside k x) ≡ meet = inside_exit d k x room (omega arith) (omega arith) ∙ omega arith in
      let later = Open ∷ (block_words c ++ (Close ∷ ws)) in
      let first = ends_first r (n + 1 + block_size b) (inside k x) later (omega arith) in
      let second = ends_second r meet (inside k x) ws (omega arith) in
      let outer = inside_outer d k x room (omega arith) in
      ap (run (pen r n k)) (either_words b c ws)
      ∙ rw (braces_past b n later, braces_past c (n + 1 + block_size b) ws, body, leads, first, other, leads, second, outer, size)
      (sym (either_nodes_lem b c r n _ _))

-- ── Items and blocks ────────────────────────────────────────────────────────
-- an item does not begin with a `}`
item_next : (i : Item) (k n : ℕ) (ws : List Token) → follows k n (item_words i ++ ws) ≡ n
unfolding item_words
item_next (access j l) k n ws = refl
item_next fence k n ws = refl
item_next (loop b) k n ws = refl
item_next (either b c) k n ws = refl

module _ (r n k : ℕ) (ws : List Token) where
  also_run : (b : Block) (i : Item) → Written b r n k (item_words i ++ ws)
      → run (pen r (n + block_size b) k) (item_words i ++ ws)
      ≡ item_nodes i r (n + block_size b) (follows k (n + block_size b + item_size i) ws) ++ run (pen r (n + block_size b + item_size i) k) ws
      → Written (also b i) r n k ws
  unfolding block_words block_nodes block_size
  also_run b i before last =
      let size : n + block_size b + item_size i ≡ n + (block_size b + item_size i) = omega arith in
      simp append_assoc (rw (before, item_next i k (n + block_size b) ws, last, size))

level : (d : ℕ) → suc d - 1 ≡ d
level d = omega arith

mutual
  unfolding item_words block_words item_size block_size item_nodes block_nodes ItemWithin BlockWithin nodes_at after

  item_run : (i : Item) (d r n k : ℕ) (ws : List Token) → ItemWithin i d → k < limit d → n + item_size i ≤ NODES
      → run (pen r n k) (item_words i ++ ws) ≡ item_nodes i r n (follows k (n + item_size i) ws) ++ run (pen r (n + item_size i) k) ws
  item_run (access j l) d r n k ws w room few = refl
  item_run fence d r n k ws w room few = refl
  item_run (loop b) zero r n k ws w room few = absurd (omega (arith, w.0))
  item_run (loop b) (suc d) r n k ws w room few =
      loop_run d r n k ws room b few
      (block_run b d r (n + 1) _ (Close ∷ ws) (subst (BlockWithin b) (level d) w.1) (inside_room d k (n + 1) room (omega arith)) (omega arith))
  item_run (either b c) zero r n k ws w room few = absurd (omega (arith, w.0))
  item_run (either b c) (suc d) r n k ws w room few =
      let x = n + 1 + block_size b + 1 + block_size c in
      let deep = inside_room d k x room (omega arith) in
      either_run d r n k ws room b c few
      (block_run b d r (n + 1) _ _ (subst (BlockWithin b) (level d) w.1) deep (omega arith))
      (block_run c d r (n + 1 + block_size b) _ (Close ∷ ws) (subst (BlockWithin c) (level d) w.2) deep (omega arith))

  block_run : (b : Block) (d r n k : ℕ) (ws : List Token) → BlockWithin b d → k < limit d → n + block_size b ≤ NODES → Written b r n k ws
  block_run (one i) d r n k ws w room few = item_run i d r n k ws w room few
  block_run (also b i) d r n k ws w room few =
      also_run r n k ws b i (block_run b d r n k (item_words i ++ ws) w.0 room (omega arith))
      (item_run i d r (n + block_size b) k ws w.1 room (omega arith))

-- ── Texts ───────────────────────────────────────────────────────────────────
parts_run : (t : Text) (ws : List Token) → TextWithin t → size_of t ≤ NODES
    → run (pen 0 0 0) (words_of t ++ ws) ≡ nodes_of t ++ run (pen (parts_of t) (size_of t) 0) ws
unfolding nodes_at after exit_of
parts_run nothing ws w few = refl
parts_run (part t b) ws w few =
    let before = parts_run t (Routine ∷ Open ∷ (block_words b ++ (Close ∷ ws))) w.0 (omega arith) in
    let block = block_run b DEPTH (parts_of t) (size_of t) 0 (Close ∷ ws) w.1 limit_eight (omega arith) in
    simp append_assoc (before ∙ rw (block, ends_part (parts_of t) (size_of t + block_size b) 0 ws refl))

-- THE WORDS OF A TREE MAKE ITS NODES
pub text_run : (t : Text) → TextWithin t → size_of t ≤ NODES → run (pen 0 0 0) (words_of t) ≡ nodes_of t
text_run t w few =
    ap (run (pen 0 0 0)) (sym (append-nil (words_of t))) ∙ parts_run t [] w few ∙ append-nil (nodes_of t)
