-- The nodes of a text's tree are of the kinds of version 1, and those of kinds 0 and 4 have location 0.
use mathlib.Core.Path.{◌≡◌, refl, sym, subst}
use mathlib.Core.List.{[], ◌∷◌, ◌++◌}
use Prim.Native.Nat.{ℕ, ◌+◌, ◌<◌}
use native.Mathlib.Omega.{arith}
use lib.Dec.{T, eqb, eqb→eq}
use Rattle.listing.specs.Kinds.{PLAIN, READ, WRITE, RMW, FENCE, kinds_of, has_no_location}
use Rattle.listing.specs.Node.{Node, none}
use Rattle.listing.proofs.Bools.{either as any}
use Rattle.words.specs.Words.{Routine, Open, Close}
use Rattle.order.specs.Rows.{All}
use Rattle.grammar.specs.Tree.{Item, access, fence, loop, either, Block, one, also, Text, nothing, part}
use Rattle.grammar.specs.Tree.{item_words, block_words, words_of, block_size, item_nodes, block_nodes, nodes_of, made, plain, parts_of, size_of}
use Rattle.text.proofs.Every.{all_both, all_apart, of_plain, either_all, also_all}
use Rattle.text.proofs.Said.{is_typed, Said}

-- a node that rules 9 and 10 let pass
pub record Kinded (m : Node) : Type 0 where
  pub kind : m.kind < kinds_of 1
  pub location : T (has_no_location m.kind) → m.location ≡ 0

-- an access that can be typed is of kind 1, 2 or 3
of_typed : (p : ℕ → Type 0) → p READ → p WRITE → p RMW → (k : ℕ) → T (is_typed k) → p k
of_typed p read write rmw k = any (eqb k READ) _ (is READ read) (any (eqb k WRITE) _ (is WRITE write) (is RMW rmw))
  where
    is : (x : ℕ) → p x → T (eqb k x) → p k
    is x h e = subst p (sym (eqb→eq k x e)) h

access_kinded : (r k l next : ℕ) → T (is_typed k) → Kinded (made r k l next none)
access_kinded r k l next t =
    of_typed (λ j. Kinded (made r j l next none))
    (record { kind = omega arith; location = λ h. absurd h })
    (record { kind = omega arith; location = λ h. absurd h })
    (record { kind = omega arith; location = λ h. absurd h })
    k t

-- kinds 0 and 4
bare : (r k a b : ℕ) → k < kinds_of 1 → Kinded (made r k 0 a b)
bare r k a b h = record { kind = h; location = λ _. refl }

plain_kinded : (r a b : ℕ) → Kinded (plain r a b)
plain_kinded r a b = of_plain Kinded r a b (λ _. bare r PLAIN a b (omega arith)) (λ _. bare r PLAIN b a (omega arith))

mutual
  unfolding item_words block_words item_nodes block_nodes

  item_kinded : (i : Item) (r n next : ℕ) → All Said (item_words i) → All Kinded (item_nodes i r n next)
  item_kinded (access k l) r n next h = (access_kinded r k l next h.0, tt)
  item_kinded fence r n next h = (bare r FENCE next none (omega arith), tt)
  item_kinded (loop b) r n next h =
      (plain_kinded r (n + 1) next, block_kinded b r (n + 1) n (all_apart Said (block_words b) (Close ∷ []) h.1.1).0)
  item_kinded (either b c) r n next h =
      let x = all_apart Said (block_words b) (Close ∷ Open ∷ (block_words c ++ (Close ∷ []))) h.1.1 in
      let y = all_apart Said (block_words c) (Close ∷ []) x.1.1.1 in
      either_all Kinded r n next b c (plain_kinded r (n + 1) (n + 1 + block_size b))
      (block_kinded b r _ _ x.0) (block_kinded c r _ _ y.0) (bare r PLAIN next none (omega arith))

  block_kinded : (b : Block) (r n next : ℕ) → All Said (block_words b) → All Kinded (block_nodes b r n next)
  block_kinded (one i) r n next h = item_kinded i r n next h
  block_kinded (also b i) r n next h =
      let x = all_apart Said (block_words b) (item_words i) h in
      also_all Kinded r n next b i (block_kinded b r n _ x.0) (item_kinded i r _ next x.1)

-- SO ARE THE NODES OF EVERY TREE WHOSE WORDS CAN BE SAID
pub text_kinded : (t : Text) → All Said (words_of t) → All Kinded (nodes_of t)
text_kinded nothing h = tt
text_kinded (part t b) h =
    let x = all_apart Said (words_of t) (Routine ∷ Open ∷ (block_words b ++ (Close ∷ []))) h in
    let y = all_apart Said (block_words b) (Close ∷ []) x.1.1.1 in
    all_both Kinded (nodes_of t) _ (text_kinded t x.0) (block_kinded b (parts_of t) (size_of t) none y.0)
