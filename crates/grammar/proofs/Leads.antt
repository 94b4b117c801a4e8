-- SOUND: what the executable grammar reads from state to state are the words between them, and no tree gets deeper than 8.
use mathlib.Core.Path.{◌≡◌, refl, sym, ap, ◌∙◌, subst}
use mathlib.Core.Bool.{Bool, true, false, cond, true≢false}
use mathlib.Core.List.{List, [], ◌∷◌, ◌++◌, append_assoc, append-nil}
use Prim.Native.Nat.{ℕ, suc, ◌-◌, ◌<◌}
use native.Mathlib.Omega.{arith}
use lib.Dec.{ltb}
use borrow.Author.Tests.{ltb-true}
use Rattle.words.specs.Words.{Token, Routine, Loop, Either, Open, Close, Fence, Access, Number, Other}
use Rattle.grammar.specs.Tree.{Item, access, fence, loop, either, Block, item_words, block_words, words_of, ItemWithin, BlockWithin}
use Rattle.grammar.specs.Tree.{TextWithin, DEPTH}
use Rattle.grammar.specs.Inner.Reader.{SoFar, none, some, and, BeforeWithin, Outside, of_part, of_loop, of_first, of_second, deep, State}
use Rattle.grammar.specs.Inner.Reader.{between, opening, inside, located, closed, Move, stuck, to, enter, move}
use Rattle.grammar.proofs.Steps.{then, steps}

-- the words that lead to a state
unfoldable pub before_words : SoFar → List Token
before_words none = []
before_words (some b) = block_words b

unfoldable pub around_words : Outside → List Token
around_words (of_part t) = words_of t ++ (Routine ∷ [])
around_words (of_loop x a) = around_words a ++ (Open ∷ (before_words x ++ (Loop ∷ [])))
around_words (of_first x a) = around_words a ++ (Open ∷ (before_words x ++ (Either ∷ [])))
around_words (of_second x b a) = around_words a ++ (Open ∷ (before_words x ++ (Either ∷ Open ∷ (block_words b ++ (Close ∷ [])))))

unfoldable pub state_words : State → List Token
state_words (between t) = words_of t
state_words (opening a) = around_words a
state_words (inside x a) = around_words a ++ (Open ∷ before_words x)
state_words (located k x a) = around_words a ++ (Open ∷ (before_words x ++ (Access k ∷ [])))

and_words : (x : SoFar) (i : Item) → before_words (and x i) ≡ before_words x ++ item_words i
unfolding before_words block_words
and_words none i = refl
and_words (some b) i = refl

closed_words : (b : Block) (a : Outside) → state_words (closed b a) ≡ around_words a ++ (Open ∷ (block_words b ++ (Close ∷ [])))
unfolding state_words around_words item_words
closed_words b (of_part t) = simp append_assoc
closed_words b (of_loop x a) = simp (and_words x (loop b), append_assoc)
closed_words b (of_first x a) = simp append_assoc
closed_words b (of_second x c a) = simp (and_words x (either c b), append_assoc)

-- no state is two
pub to_inj : {s t : State} → to s ≡ to t → s ≡ t
to_inj e = cc

pub not_stuck : {s : State} → stuck ≡ to s → ⊥
not_stuck e = true≢false cc

enter_to : (d : ℕ) (a : Outside) (u : State) → enter d a ≡ to u → (opening a ≡ u) × (d < DEPTH)
enter_to d a u e = go (ltb d DEPTH) refl e
  where
    go : (b : Bool) → ltb d DEPTH ≡ b → cond b (to (opening a)) stuck ≡ to u → (opening a ≡ u) × (d < DEPTH)
    go true h q = (to_inj q, ltb-true d DEPTH h)
    go false h q = absurd (not_stuck q)

-- a state's blocks are at most 8 deep
unfoldable pub AroundWithin : Outside → Type 0
AroundWithin (of_part t) = TextWithin t
AroundWithin (of_loop x a) = (deep a < DEPTH) × BeforeWithin x (DEPTH - deep a) × AroundWithin a
AroundWithin (of_first x a) = (deep a < DEPTH) × BeforeWithin x (DEPTH - deep a) × AroundWithin a
AroundWithin (of_second x b a) = (deep a < DEPTH) × BeforeWithin x (DEPTH - deep a) × AroundWithin a × BlockWithin b (DEPTH - suc (deep a))

unfoldable pub StateWithin : State → Type 0
StateWithin (between t) = TextWithin t
StateWithin (opening a) = AroundWithin a
StateWithin (inside x a) = BeforeWithin x (DEPTH - deep a) × AroundWithin a
StateWithin (located k x a) = BeforeWithin x (DEPTH - deep a) × AroundWithin a

pub and_within : (x : SoFar) (i : Item) (d : ℕ) → BeforeWithin x d → ItemWithin i d → BeforeWithin (and x i) d
unfolding BlockWithin
and_within none i d hx hi = hi
and_within (some b) i d hx hi = (hx, hi)

less : (b : Block) (n : ℕ) → BlockWithin b (DEPTH - suc n) → BlockWithin b (DEPTH - n - 1)
less b n w = subst (BlockWithin b) (omega arith) w

closed_within : (b : Block) (a : Outside) → BlockWithin b (DEPTH - deep a) → AroundWithin a → StateWithin (closed b a)
unfolding AroundWithin StateWithin ItemWithin
closed_within b (of_part t) w h = (h, w)
closed_within b (of_loop x a) w h = let l = h.0 in (and_within x (loop b) _ h.1 (omega arith, less b (deep a) w), h.2)
closed_within b (of_first x a) w h = (h.0, h.1, h.2, w)
closed_within b (of_second x c a) w h = let l = h.0 in (and_within x (either c b) _ h.1 (omega arith, less c (deep a) h.3, less b (deep a) w), h.2)

-- a row of words leads from state to state
pub record Leads (s : State) (ks : List Token) (u : State) : Type 0 where
  pub words : state_words u ≡ state_words s ++ ks
  pub within : StateWithin s → StateWithin u

-- no word can stand where the grammar is stuck
none_led : {s u : State} {ks : List Token} → stuck ≡ to u → Leads s ks u
none_led e = absurd (not_stuck e)

module _ {s u v : State} {k : Token} (e : to v ≡ to u) where
  led : state_words v ≡ state_words s ++ (k ∷ []) → (StateWithin s → StateWithin v) → Leads s (k ∷ []) u
  led w f = subst (Leads s (k ∷ [])) (to_inj e) (record { words = w; within = f })

-- one word more
one_led : (s u : State) (k : Token) → move s k ≡ to u → Leads s (k ∷ []) u
unfolding state_words around_words before_words item_words StateWithin AroundWithin ItemWithin
one_led (between t) u Routine e = led e refl (λ h. h)
one_led (between t) u Loop e = none_led e
one_led (between t) u Either e = none_led e
one_led (between t) u Open e = none_led e
one_led (between t) u Close e = none_led e
one_led (between t) u Fence e = none_led e
one_led (between t) u (Access j) e = none_led e
one_led (between t) u (Number n) e = none_led e
one_led (between t) u Other e = none_led e
one_led (opening a) u Routine e = none_led e
one_led (opening a) u Loop e = none_led e
one_led (opening a) u Either e = none_led e
one_led (opening a) u Open e = led e refl (λ h. (tt, h))
one_led (opening a) u Close e = none_led e
one_led (opening a) u Fence e = none_led e
one_led (opening a) u (Access j) e = none_led e
one_led (opening a) u (Number n) e = none_led e
one_led (opening a) u Other e = none_led e
one_led (inside x a) u Routine e = none_led e
one_led (inside x a) u Loop e = let (q, l) = enter_to (deep a) (of_loop x a) u e in led (ap to q) (simp append_assoc) (λ h. (l, h.0, h.1))
one_led (inside x a) u Either e = let (q, l) = enter_to (deep a) (of_first x a) u e in led (ap to q) (simp append_assoc) (λ h. (l, h.0, h.1))
one_led (inside x a) u Open e = none_led e
one_led (inside none a) u Close e = none_led e
one_led (inside (some b) a) u Close e = led e (closed_words b a ∙ simp append_assoc) (λ h. closed_within b a h.0 h.1)
one_led (inside x a) u Fence e = led e (simp (and_words x fence, append_assoc)) (λ h. (and_within x fence _ h.0 tt, h.1))
one_led (inside x a) u (Access j) e = led e (simp append_assoc) (λ h. h)
one_led (inside x a) u (Number n) e = none_led e
one_led (inside x a) u Other e = none_led e
one_led (located k x a) u Routine e = none_led e
one_led (located k x a) u Loop e = none_led e
one_led (located k x a) u Either e = none_led e
one_led (located k x a) u Open e = none_led e
one_led (located k x a) u Close e = none_led e
one_led (located k x a) u Fence e = none_led e
one_led (located k x a) u (Access j) e = none_led e
one_led (located k x a) u (Number n) e = led e (simp (and_words x (access k n), append_assoc)) (λ h. (and_within x (access k n) _ h.0 tt, h.1))
one_led (located k x a) u Other e = none_led e

-- WHAT LEADS FROM STATE TO STATE ARE THE WORDS BETWEEN THEM
pub leads : (s u : State) (ks : List Token) → steps s ks ≡ to u → Leads s ks u
leads s u [] e =
    record { words = ap state_words (sym (to_inj e)) ∙ sym (append-nil (state_words s)); within = subst StateWithin (to_inj e) }
leads s u (k ∷ ks) e = go (move s k) refl e (λ t q. leads t u ks q)
  where
    go : (m : Move) → move s k ≡ m → then m (λ t. steps t ks) ≡ to u → ((t : State) → steps t ks ≡ to u → Leads t ks u) → Leads s (k ∷ ks) u
    go stuck h q f = absurd (not_stuck q)
    go (to t) h q f =
        let one = one_led s t k h in
        let r = f t q in
        record {
          words = r.words ∙ ap (λ (l : List Token). l ++ ks) one.words ∙ append_assoc (state_words s) (k ∷ []) ks;
          within = λ w. r.within (one.within w);
        }
