-- The executable grammar finds the tree of a text, or 17's place: exactly these, over all continuations.
use mathlib.Core.Path.{◌≡◌, refl, sym, ap, ◌∙◌, subst}
use mathlib.Core.Bool.{true≢false}
use mathlib.Core.List.{List, [], ◌∷◌, ◌++◌, append-nil}
use Prim.Native.Nat.{ℕ}
use lib.ListN.{length}
use Rattle.words.specs.Words.{Word, meaning, words}
use Rattle.words.specs.Inner.Looking.{marks, unread}
use Rattle.grammar.specs.Tree.{Text, nothing}
use Rattle.grammar.specs.Stands.{saying, Reads, Stands, BadAt, word, breaks, BadText, TreeOf}
use Rattle.grammar.specs.Inner.Reader.{State, between, opening, inside, located, Move, stuck, to, move, Outcome, tree, bad, stop}
use Rattle.grammar.specs.Inner.Reader.{onward, read, parse}
use Rattle.grammar.proofs.Steps.{then, steps, after}
use Rattle.grammar.proofs.Leads.{to_inj, not_stuck}
use Rattle.grammar.proofs.Standing.{Led, saying_append, led_on, tree_reads, reads_tree, led_stands, stands_led}

-- where reading on from a state ends
data Ending (s : State) (ws : List Word) (len : ℕ) : Outcome → Type 0 where
  whole : (t : Text) → steps s (saying ws) ≡ to (between t) → Ending s ws len (tree t)
  stops : (before later : List Word) (w : Word) (u : State) → ws ≡ before ++ (w ∷ later) → steps s (saying before) ≡ to u
      → move u (meaning w.bytes) ≡ stuck → Ending s ws len (bad w.place)
  short : (u : State) → steps s (saying ws) ≡ to u → ((t : Text) → u ≡ between t → ⊥) → Ending s ws len (bad len)

ended : (s : State) (len : ℕ) → Ending s [] len (stop len s)
ended (between t) len = whole t refl
ended (opening a) len = short (opening a) refl (λ t e. true≢false cc)
ended (inside x a) len = short (inside x a) refl (λ t e. true≢false cc)
ended (located k x a) len = short (located k x a) refl (λ t e. true≢false cc)

module _ (s u : State) (w : Word) (h : move s (meaning w.bytes) ≡ to u) where
  first : (ws : List Word) (v : State) → steps u (saying ws) ≡ to v → steps s (saying (w ∷ ws)) ≡ to v
  first ws v e = ap (λ (m : Move). then m (λ t. steps t (saying ws))) h ∙ e

  further : (ws : List Word) (len : ℕ) (o : Outcome) → Ending u ws len o → Ending s (w ∷ ws) len o
  further ws len o (whole t e) = whole t (first ws (between t) e)
  further ws len o (stops before later x v e f g) = stops (w ∷ before) later x v (ap (λ (l : List Word). w ∷ l) e) (first before v f) g
  further ws len o (short v e f) = short v (first ws v e) f

ending : (ws : List Word) (s : State) (len : ℕ) → Ending s ws len (read len s (marks ws))
ending [] s len = ended s len
ending (w ∷ ws) s len = go (move s (meaning w.bytes)) refl (λ u. ending ws u len)
  where
    go : (m : Move) → move s (meaning w.bytes) ≡ m → ((u : State) → Ending u ws len (read len u (marks ws)))
        → Ending s (w ∷ ws) len (onward m w.place (λ t. read len t (marks ws)))
    go stuck h f = stops [] ws w s refl refl h
    go (to u) h f = further s u w h ws len _ (f u)

-- ── What is found is right ──────────────────────────────────────────────────
unfoldable Means : List Word → ℕ → Outcome → Type 0
Means ws len (tree t) = Reads ws t
Means ws len (bad p) = BadAt ws len p

-- a word at which the grammar is stuck can't stand
stuck_not : (ws : List Word) (w : Word) (u : State) → Led ws u → move u (meaning w.bytes) ≡ stuck → Stands (ws ++ (w ∷ [])) → ⊥
stuck_not ws w u e h st =
    let (v, q) = stands_led (ws ++ (w ∷ [])) st in
    let lost = ap (steps (between nothing)) (saying_append ws (w ∷ [])) ∙ after (between nothing) u (saying ws) (saying (w ∷ [])) e in
    not_stuck (sym (lost ∙ ap (λ (m : Move). then m to) h) ∙ q)

means : (ws : List Word) (len : ℕ) (o : Outcome) → Ending (between nothing) ws len o → Means ws len o
unfolding Means
means ws len o (whole t e) = tree_reads ws t e
means ws len o (stops before later w u e f g) = word before later w e (led_stands before u f) (stuck_not before w u f g)
means ws len o (short u e f) = breaks (led_stands ws u e) (λ t r. f t (to_inj (sym e ∙ reads_tree ws t r)))

right : (ws : List Word) (len : ℕ) → Means ws len (read len (between nothing) (marks ws))
right ws len = means ws len _ (ending ws (between nothing) len)

-- ── And nothing else is ─────────────────────────────────────────────────────
read_after : (before ws : List Word) (s u : State) (len : ℕ) → steps s (saying before) ≡ to u → read len s (marks (before ++ ws)) ≡ read len u (marks ws)
read_after [] ws s u len e = ap (λ (v : State). read len v (marks ws)) (to_inj e)
read_after (w ∷ before) ws s u len e = go (move s (meaning w.bytes)) e (λ v q. read_after before ws v u len q)
  where
    go : (m : Move) → then m (λ t. steps t (saying before)) ≡ to u
        → ((v : State) → steps v (saying before) ≡ to u → read len v (marks (before ++ ws)) ≡ read len u (marks ws))
        → onward m w.place (λ t. read len t (marks (before ++ ws))) ≡ read len u (marks ws)
    go stuck q f = absurd (not_stuck q)
    go (to v) q f = f v q

read_all : (ws : List Word) (s u : State) (len : ℕ) → steps s (saying ws) ≡ to u → read len s (marks ws) ≡ stop len u
read_all ws s u len e = ap (λ (l : List Word). read len s (marks l)) (sym (append-nil ws)) ∙ read_after ws [] s u len e

only : (ws : List Word) (len : ℕ) (o : Outcome) → Means ws len o → read len (between nothing) (marks ws) ≡ o
unfolding Means
only ws len (tree t) r = read_all ws (between nothing) (between t) len (reads_tree ws t r)
only ws len (bad p) (word before later w e st bars) =
    let (u, q) = stands_led before st in
    ap (λ (l : List Word). read len (between nothing) (marks l)) e
    ∙ read_after before (w ∷ later) (between nothing) u len q
    ∙ go u q (move u (meaning w.bytes)) refl
  where
    go : (u : State) → Led before u → (m : Move) → move u (meaning w.bytes) ≡ m → onward m w.place (λ t. read len t (marks later)) ≡ bad w.place
    go u q stuck h = refl
    go u q (to v) h = absurd (bars (led_stands (before ++ (w ∷ [])) v (led_on before (w ∷ []) u v q (ap (λ (m : Move). then m to) h))))
only ws len (bad p) (breaks st none_is) =
    let (u, q) = stands_led ws st in
    read_all ws (between nothing) u len q ∙ go u q
  where
    go : (u : State) → Led ws u → stop len u ≡ bad len
    go (between t) q = absurd (none_is t (tree_reads ws t q))
    go (opening a) q = refl
    go (inside x a) q = refl
    go (located k x a) q = refl

-- ── A text ──────────────────────────────────────────────────────────────────
pub tree_found : (s : List ℕ) (t : Text) → TreeOf s t → parse s ≡ tree t
unfolding parse Means unread words
tree_found s t r = only (words s) (length s) (tree t) r

pub bad_found : (s : List ℕ) (p : ℕ) → BadText s p → parse s ≡ bad p
unfolding parse Means unread words
bad_found s p b = only (words s) (length s) (bad p) b

pub found_tree : (s : List ℕ) (t : Text) → parse s ≡ tree t → TreeOf s t
unfolding parse Means unread words
found_tree s t e = subst (Means (words s) (length s)) e (right (words s) (length s))

-- 17 IS FOUND WHERE THE FIRST WORD CAN'T STAND
pub found_bad : (s : List ℕ) (p : ℕ) → parse s ≡ bad p → BadText s p
unfolding parse Means unread words
found_bad s p e = subst (Means (words s) (length s)) e (right (words s) (length s))
