-- A block of a tree is passed word by word: its nodes are counted.
use mathlib.Core.Path.{◌≡◌, refl, ap, ◌∙◌}
use mathlib.Core.List.{List, [], ◌∷◌, ◌++◌, append_assoc}
use Prim.Native.Nat.{ℕ, suc, ◌+◌}
use native.Mathlib.Omega.{arith}
use Rattle.words.specs.Words.{Token, Open, Close}
use Rattle.grammar.specs.Tree.{Item, access, fence, loop, either, Block, one, also, item_words, block_words, item_size, block_size}
use Rattle.text.specs.Inner.Pen.{beyond, past}

-- n nodes and m are as many
counted : (ws : List Token) (o n m : ℕ) → n ≡ m → past ws o n ≡ past ws o m
counted ws o n m e = ap (past ws o) e

mutual
  unfolding item_words block_words item_size block_size

  item_past : (i : Item) (o n : ℕ) (ws : List Token) → past (item_words i ++ ws) (suc o) n ≡ past ws (suc o) (n + item_size i)
  item_past (access k l) o n ws = refl
  item_past fence o n ws = refl
  item_past (loop b) o n ws =
      ap (λ (l : List Token). past l (suc (suc o)) (n + 1)) (append_assoc (block_words b) (Close ∷ []) ws)
      ∙ block_past b (suc o) (n + 1) (Close ∷ ws)
      ∙ counted ws (suc o) _ _ (omega arith)
  item_past (either b c) o n ws =
      ap (λ (l : List Token). past l (suc (suc o)) (n + 1)) (append_assoc (block_words b) (Close ∷ Open ∷ (block_words c ++ (Close ∷ []))) ws)
      ∙ block_past b (suc o) (n + 1) (Close ∷ Open ∷ ((block_words c ++ (Close ∷ [])) ++ ws))
      ∙ ap (λ (l : List Token). past l (suc (suc o)) (n + 1 + block_size b + 1)) (append_assoc (block_words c) (Close ∷ []) ws)
      ∙ block_past c (suc o) (n + 1 + block_size b + 1) (Close ∷ ws)
      ∙ counted ws (suc o) _ _ (omega arith)

  block_past : (b : Block) (o n : ℕ) (ws : List Token) → past (block_words b ++ ws) (suc o) n ≡ past ws (suc o) (n + block_size b)
  block_past (one i) o n ws = item_past i o n ws
  block_past (also b i) o n ws =
      ap (λ (l : List Token). past l (suc o) n) (append_assoc (block_words b) (item_words i) ws)
      ∙ block_past b o n (item_words i ++ ws)
      ∙ item_past i o (n + block_size b) ws
      ∙ counted ws (suc o) _ _ (omega arith)

-- A BLOCK IS PASSED WITH ITS BRACES, AND COUNTS FOR ONE NODE MORE
pub braces_past : (b : Block) (n : ℕ) (ws : List Token) → past (Open ∷ (block_words b ++ (Close ∷ ws))) 0 n ≡ beyond (n + 1 + block_size b) ws
braces_past b n ws = block_past b 0 (n + 1) (Close ∷ ws)
