-- The block reader's ways out: what it answers is what the grammar says from the block's `{` on.
use mathlib.Core.Path.{◌≡◌, refl, sym, ◌∙◌, subst}
use mathlib.Core.List.{List}
use Prim.Native.Nat.{ℕ, ◌+◌, ◌<◌, ◌≤◌}
use native.Mathlib.Omega.{arith}
use lib.ListN.{length}
use Rattle.std.specs.Prelude.{Ok, Err}
use Rattle.words.specs.Words.{Close}
use Rattle.words.specs.declared.Word.{Word as Said}
use Rattle.words.specs.declared.Word.TheVariants as said
use Rattle.grammar.specs.declared.reader.Misplaced.{Misplaced}
use Rattle.grammar.specs.Inner.Reader.{SoFar, none, some, and, Outside, opening, inside, move, bad, onward, from, from_word, Levels}
use Rattle.grammar.specs.Inner.Reader.{Cursor, word_of, Looked, ItemAhead, ItemRead, BlockRead, before_size, BeforeWithin, BlockGoes}
use Rattle.grammar.proofs.Sizes.{item_some, block_some, and_size}
use Rattle.grammar.proofs.Leads.{and_within}
use Rattle.grammar.proofs.Moves.{led, no_open, stands_not}
use Rattle.grammar.proofs.Items.{no_end}

-- ── Its `{`: the word k after `old` ─────────────────────────────────────────
module _ (s : List ℕ) (d : ℕ) (old : Cursor) (k : Said) (mid : Cursor) (l : Looked s old mid k) where
  pub block_bad : {r : Misplaced} → (k ≡ said.Open → ⊥) → BlockRead s d old mid (Err r)
  block_bad h = (
    l.text,
    λ a _. rw l.ahead.same (stands_not s (word_of k mid) l.ahead.found.none (opening a) refl (no_open a k h)),
  )

  -- the word w after it is looked at
  pub block_opens : k ≡ said.Open → (w : Said) (at : Cursor) → Looked s mid at w → BlockGoes s d old at w
  block_opens e w at next =
      let past = l.ahead.found.some (no_end said.Open e refl) in
      let on = l.ahead.later in
      let within = l.ahead.found.within in
      let later = next.ahead.later in
      record {
        text = next.text;
        items = none;
        nodes = omega (arith, next.passed, l.passed);
        deep_so = tt;
        few = l.few;
        later = omega arith;
        within = omega arith;
        found = next.ahead.found;
        same = λ a h. rw l.ahead.same (led s (word_of k mid) (opening a) said.Open e refl ∙ rw next.ahead.same);
      }

-- ── After some items: the word w after them was looked at ───────────────────
module _ (s : List ℕ) (d : ℕ) (old : Cursor) (w : Said) (at : Cursor) (goes : BlockGoes s d old at w) where
  pub item_ahead : (w ≡ said.Close → ⊥) → ItemAhead at.text w at
  item_ahead h =
      let few = goes.later in
      subst (λ (t : List ℕ). ItemAhead t w at) (sym goes.text)
      (record { found = goes.found; going = h; passed = omega (arith, goes.nodes, goes.few) })

  pub item_bad : {r q : Misplaced} (new : Cursor) → ItemRead s w d at new (Err q) → BlockRead s d old new (Err r)
  item_bad new (text, f) = (text, λ a h. goes.same a h ∙ f goes.items a h)

  -- an item leads forward, and has a node
  pub item_on : (new : Cursor) → ItemRead s w d at new (Ok tt) → (at.start < new.end) × (new.end ≤ length s) × (old.passed < new.passed)
  item_on new (i, text, nodes, far, within, span) = let least = item_some i in (omega arith, within, omega (arith, goes.nodes))

  pub block_goes : (new : Cursor) → ItemRead s w d at new (Ok tt) → (w' : Said) (at' : Cursor) → Looked s new at' w' → BlockGoes s d old at' w'
  block_goes new (i, text, nodes, far, within, span) w' at' next =
      let on = next.ahead.later in
      let size = and_size goes.items i in
      record {
        text = next.text;
        items = and goes.items i;
        nodes = omega (arith, next.passed, goes.nodes);
        deep_so = and_within goes.items i d goes.deep_so span.within;
        few = goes.few;
        later = omega (arith, goes.later);
        within = goes.within;
        found = next.ahead.found;
        same = λ a h. goes.same a h ∙ span.same goes.items a h ∙ rw next.ahead.same;
      }

  -- "No block is empty"
  pub block_empty : {r : Misplaced} → w ≡ said.Close → at.passed ≡ old.passed → BlockRead s d old at (Err r)
  block_empty e z = (
    goes.text,
    λ a h. goes.same a h ∙ led s (word_of w at) (inside goes.items a) said.Close e refl ∙ go a goes.items goes.nodes,
  )
    where
      go : (a : Outside) (x : SoFar) → at.passed ≡ old.passed + before_size x
          → onward (move (inside x a) Close) at.start (λ t. from s t at.end) ≡ bad at.start
      go a none _ = refl
      go a (some b) k = let f = block_some b in absurd (omega arith)

  -- A BLOCK IS READ TO ITS `}`
  pub block_closes : w ≡ said.Close → old.passed < at.passed → BlockRead s d old at (Ok tt)
  block_closes e z = go goes.items goes.nodes goes.deep_so goes.later goes.same
    where
      go : (x : SoFar) → at.passed ≡ old.passed + before_size x → BeforeWithin x d → old.end + 1 + before_size x ≤ at.start
          → ((a : Outside) → Levels a d → from s (opening a) old.end ≡ from_word s (inside x a) (word_of w at))
          → BlockRead s d old at (Ok tt)
      go none k l later f = absurd (omega arith)
      go (some b) k l later f =
          let past = goes.found.some (no_end said.Close e refl) in (
            b,
            goes.text,
            k,
            omega arith,
            goes.found.within,
            record { within = l; same = λ a h. f a h ∙ led s (word_of w at) (inside (some b) a) said.Close e refl },
          )
