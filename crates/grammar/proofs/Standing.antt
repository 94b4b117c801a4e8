-- What the executable grammar says of a row of words is what `Reads` and `Stands` say of it, over all trees and all continuations.
use mathlib.Core.Path.{◌≡◌, refl, sym, ap, ◌∙◌, subst}
use mathlib.Core.List.{List, [], ◌∷◌, ◌++◌}
use Prim.Native.Nat.{ℕ}
use Rattle.listing.specs.Ascii.{bytes}
use Rattle.words.specs.Words.{Token, Word, word_at, meaning, number}
use Rattle.grammar.specs.Tree.{Item, access, fence, loop, either, Block, one, also, Text, nothing, part}
use Rattle.grammar.specs.Stands.{saying, Reads, Stands}
use Rattle.grammar.specs.Inner.Reader.{SoFar, none, some, and, Outside, of_part, of_loop, of_first, of_second, State, between, opening}
use Rattle.grammar.specs.Inner.Reader.{inside, located, closed, Move, stuck, to}
use Rattle.grammar.proofs.Steps.{then, steps, steps_append, after, text_steps}
use Rattle.grammar.proofs.Leads.{state_words, StateWithin, leads, to_inj, not_stuck}

-- the words lead from the start to a state
abbrev pub Led : List Word → State → Type 0
Led ws s = steps (between nothing) (saying ws) ≡ to s

pub saying_append : (ws vs : List Word) → saying (ws ++ vs) ≡ saying ws ++ saying vs
saying_append [] vs = refl
saying_append (w ∷ ws) vs = ap (λ (l : List Token). meaning w.bytes ∷ l) (saying_append ws vs)

-- words that lead to s, and after them those that lead from s to u
pub led_on : (ws vs : List Word) (s u : State) → Led ws s → steps s (saying vs) ≡ to u → Led (ws ++ vs) u
led_on ws vs s u e f =
    ap (steps (between nothing)) (saying_append ws vs) ∙ after (between nothing) s (saying ws) (saying vs) e ∙ f

-- ── Trees ───────────────────────────────────────────────────────────────────
pub tree_reads : (ws : List Word) (t : Text) → Led ws (between t) → Reads ws t
unfolding state_words StateWithin
tree_reads ws t e = let r = leads (between nothing) (between t) (saying ws) e in record { words = r.words; within = r.within tt }

pub reads_tree : (ws : List Word) (t : Text) → Reads ws t → Led ws (between t)
reads_tree ws t r = subst (λ (l : List Token). steps (between nothing) l ≡ to (between t)) r.words (text_steps t r.within)

between_inj : {t u : Text} → between t ≡ between u → t ≡ u
between_inj e = cc

-- no row of words has two readings
pub one_tree : (ws : List Word) (t u : Text) → Reads ws t → Reads ws u → t ≡ u
one_tree ws t u r q = between_inj (to_inj (sym (reads_tree ws t r) ∙ reads_tree ws u q))

-- ── Continuations ───────────────────────────────────────────────────────────
-- a word of a continuation, wherever it stands
says : List ℕ → Word
says w = word_at 0 w

opener : Word
opener = says (bytes "{")

closer : Word
closer = says (bytes "}")

item : Word
item = says (bytes "f")

unknown : Word
unknown = says (bytes "0")

-- words that close all that is open
rest : Outside → List Word
rest (of_part t) = []
rest (of_loop x a) = closer ∷ rest a
rest (of_first x a) = opener ∷ item ∷ closer ∷ closer ∷ rest a
rest (of_second x b a) = closer ∷ rest a

finish : State → List Word
finish (between t) = []
finish (opening a) = opener ∷ item ∷ closer ∷ rest a
finish (inside none a) = item ∷ closer ∷ rest a
finish (inside (some b) a) = closer ∷ rest a
finish (located k x a) = unknown ∷ closer ∷ rest a

Finishes : State → List Word → Type 0
Finishes s ws = (t : Text) × (steps s (saying ws) ≡ to (between t))

-- a block with items in it can be closed
closes : (x : SoFar) (i : Item) (a : Outside) (ws : List Word) → ((b : Block) → Finishes (closed b a) ws) → Finishes (inside (and x i) a) (closer ∷ ws)
unfolding Finishes meaning closer says
closes none i a ws f = f (one i)
closes (some b) i a ws f = f (also b i)

rests : (a : Outside) (b : Block) → Finishes (closed b a) (rest a)
unfolding Finishes rest meaning opener closer item says
rests (of_part t) b = (part t b, refl)
rests (of_loop x a) b = closes x (loop b) a (rest a) (λ c. rests a c)
rests (of_first x a) b = closes x (either b (one fence)) a (rest a) (λ c. rests a c)
rests (of_second x c a) b = closes x (either c b) a (rest a) (λ d. rests a d)

finishes : (s : State) → Finishes s (finish s)
unfolding Finishes finish meaning number opener closer item unknown says
finishes (between t) = (t, refl)
finishes (opening a) = rests a (one fence)
finishes (inside none a) = rests a (one fence)
finishes (inside (some b) a) = rests a b
finishes (located k x a) = closes x (access k 0) a (rest a) (λ c. rests a c)

-- words that lead to a state can stand
pub led_stands : (ws : List Word) (s : State) → Led ws s → Stands ws
unfolding Finishes
led_stands ws s e =
    let (t, q) = finishes s in
    record { more = finish s; text = t; reads = tree_reads (ws ++ finish s) t (led_on ws (finish s) s (between t) e q) }

-- WORDS THAT CAN STAND LEAD TO A STATE
pub stands_led : (ws : List Word) → Stands ws → (s : State) × Led ws s
stands_led ws st = go (steps (between nothing) (saying ws)) refl
  where
    go : (m : Move) → steps (between nothing) (saying ws) ≡ m → (s : State) × Led ws s
    go (to s) e = (s, e)
    go stuck e =
        let more = saying st.more in
        let led = sym (ap (steps (between nothing)) (saying_append ws st.more)) ∙ reads_tree (ws ++ st.more) st.text st.reads in
        let lost = steps_append (between nothing) (saying ws) more ∙ ap (λ (m : Move). then m (λ t. steps t more)) e in
        absurd (not_stuck (sym lost ∙ led))
