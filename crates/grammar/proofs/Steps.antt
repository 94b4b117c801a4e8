-- COMPLETE: the executable grammar reads the words of a tree to that tree.
use mathlib.Core.Path.{◌≡◌, refl, ap, ◌∙◌}
use mathlib.Core.List.{List, [], ◌∷◌, ◌++◌}
use Prim.Native.Nat.{ℕ, suc, ◌+◌, ◌-◌, ◌<◌}
use native.Mathlib.Omega.{arith}
use borrow.Author.Tests.{lt-ltb}
use Rattle.words.specs.Words.{Token, Routine, Open, Close}
use Rattle.grammar.specs.Tree.{Item, access, fence, loop, either, Block, one, also, Text, nothing, part, item_words, block_words}
use Rattle.grammar.specs.Tree.{words_of, ItemWithin, BlockWithin, TextWithin, DEPTH}
use Rattle.grammar.specs.Inner.Reader.{SoFar, none, some, and, Outside, of_part, of_loop, of_first, of_second, deep, State, between}
use Rattle.grammar.specs.Inner.Reader.{opening, inside, closed, Move, stuck, to, enter, move, Levels}

-- a row of words from a state
abbrev pub then : Move → (State → Move) → Move
then stuck f = stuck
then (to s) f = f s

abbrev pub steps : State → List Token → Move
steps s [] = to s
steps s (k ∷ ks) = then (move s k) (λ t. steps t ks)

pub steps_append : (s : State) (ks ls : List Token) → steps s (ks ++ ls) ≡ then (steps s ks) (λ t. steps t ls)
steps_append s [] ls = refl
steps_append s (k ∷ ks) ls = go (move s k) (λ t. steps_append t ks ls)
  where
    go : (m : Move) → ((t : State) → steps t (ks ++ ls) ≡ then (steps t ks) (λ u. steps u ls))
        → then m (λ t. steps t (ks ++ ls)) ≡ then (then m (λ t. steps t ks)) (λ u. steps u ls)
    go stuck f = refl
    go (to t) f = f t

-- after ks, which lead to u
pub after : (s u : State) (ks ls : List Token) → steps s ks ≡ to u → steps s (ks ++ ls) ≡ steps u ls
after s u ks ls e = steps_append s ks ls ∙ ap (λ (m : Move). then m (λ t. steps t ls)) e

-- the items of a block after others
unfoldable pub adds : SoFar → Block → SoFar
adds x (one i) = and x i
adds x (also b i) = and (adds x b) i

adds_none : (b : Block) → adds none b ≡ some b
unfolding adds
adds_none (one i) = refl
adds_none (also b i) = rw (adds_none b)

-- a level is left
pub lower : (a b : Outside) (d : ℕ) → Levels a d → 0 < d → enter (deep a) b ≡ to (opening b)
lower a b d h z = rw (lt-ltb (deep a) DEPTH (omega arith))

-- a block between braces, where its items are read
braced : (a : Outside) (b : Block) (ks : List Token) → steps (inside none a) (block_words b) ≡ to (inside (adds none b) a)
    → steps (opening a) (Open ∷ (block_words b ++ (Close ∷ ks))) ≡ steps (closed b a) ks
braced a b ks e =
    after (inside none a) (inside (some b) a) (block_words b) (Close ∷ ks) (e ∙ ap (λ (x : SoFar). to (inside x a)) (adds_none b))

deeper : (a : Outside) (d : ℕ) → Levels a d → 0 < d → suc (deep a) + (d - 1) ≡ DEPTH
deeper a d h z = omega arith

mutual
  unfolding item_words block_words ItemWithin BlockWithin adds

  item_steps : (i : Item) (x : SoFar) (a : Outside) (d : ℕ) → Levels a d → ItemWithin i d
      → steps (inside x a) (item_words i) ≡ to (inside (and x i) a)
  item_steps (access k n) x a d h w = refl
  item_steps fence x a d h w = refl
  item_steps (loop b) x a d h w =
      let l = deeper a d h w.0 in
      rw (lower a (of_loop x a) d h w.0)
      (braced (of_loop x a) b [] (block_steps b none (of_loop x a) (d - 1) l w.1))
  item_steps (either b c) x a d h w =
      let l = deeper a d h w.0 in
      rw (lower a (of_first x a) d h w.0)
      (braced (of_first x a) b (Open ∷ (block_words c ++ (Close ∷ []))) (block_steps b none (of_first x a) (d - 1) l w.1)
      ∙ braced (of_second x b a) c [] (block_steps c none (of_second x b a) (d - 1) l w.2))

  block_steps : (b : Block) (x : SoFar) (a : Outside) (d : ℕ) → Levels a d → BlockWithin b d
      → steps (inside x a) (block_words b) ≡ to (inside (adds x b) a)
  block_steps (one i) x a d h w = item_steps i x a d h w
  block_steps (also b i) x a d h w =
      after (inside x a) (inside (adds x b) a) (block_words b) (item_words i) (block_steps b x a d h w.0)
      ∙ item_steps i (adds x b) a d h w.1

-- THE WORDS OF A TREE ARE READ TO IT
pub text_steps : (t : Text) → TextWithin t → steps (between nothing) (words_of t) ≡ to (between t)
text_steps nothing w = refl
text_steps (part t b) w =
    after (between nothing) (between t) (words_of t) (Routine ∷ Open ∷ (block_words b ++ (Close ∷ []))) (text_steps t w.0)
    ∙ braced (of_part t) b [] (block_steps b none (of_part t) DEPTH refl w.1)
