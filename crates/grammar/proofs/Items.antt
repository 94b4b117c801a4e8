-- The item reader's ways out: what it answers is what the grammar says of the words ahead.
use mathlib.Core.Path.{◌≡◌, refl, sym, ap, ◌∙◌}
use mathlib.Core.Bool.{false, true≢false}
use mathlib.Core.List.{List}
use Prim.Native.Nat.{ℕ, ◌+◌, ◌-◌, ◌<◌, ◌≤◌}
use native.Mathlib.Omega.{arith}
use borrow.Author.Tests.{le-ltb}
use Rattle.std.specs.Prelude.{Result, Ok, Err}
use Rattle.std.specs.Result.{IsErr}
use Rattle.listing.specs.declared.kind.Kind.{Kind}
use Rattle.listing.specs.Inner.Coded.{number_of}
use Rattle.words.specs.declared.Word.{Word as Said}
use Rattle.words.specs.declared.Word.TheVariants as said
use Rattle.words.specs.Inner.Looking.{is_end}
use Rattle.grammar.specs.declared.reader.Misplaced.{Misplaced}
use Rattle.grammar.specs.Tree.{access, fence, loop, either, DEPTH, item_size, ItemWithin}
use Rattle.grammar.specs.Inner.Reader.{SoFar, Outside, of_loop, of_first, of_second, deep, opening, inside, located, stuck, enter, from}
use Rattle.grammar.specs.Inner.Reader.{from_word, Levels, Cursor, word_of, Looked, Passed, Met, IsNumber, ItemAhead, ItemRead, BlockRead}
use Rattle.grammar.proofs.Kept.{block_read}
use Rattle.grammar.proofs.Steps.{lower}
use Rattle.grammar.proofs.Moves.{led, no_number, NoItem, no_item, stands_not}

-- the word k is no end
pub no_end : {w : Said} (k : Said) → w ≡ k → is_end k ≡ false → w ≡ said.End → ⊥
no_end k e h z = true≢false (ap is_end (sym z ∙ e) ∙ h)

-- ── The item whose first word, w, is the one looked at ──────────────────────
module _ (s : List ℕ) (w : Said) (d : ℕ) (old : Cursor) (ok : ItemAhead s w old) where
  -- a word has a byte, so there is room for two nodes more
  pub room : (k : Said) → w ≡ k → is_end k ≡ false → (old.start < old.end) × (old.passed + 2 ≤ old.end)
  room k e h = let past = ok.found.some (no_end k e h) in (past, omega (arith, ok.passed))

  pub item_other : {r : Misplaced} → old.text ≡ s → NoItem w → ItemRead s w d old old (Err r)
  item_other same stays = (same, λ x a _. stands_not s (word_of w old) ok.found.none (inside x a) refl (no_item x a w stays))

  -- "a ninth can't stand"
  deepest : (a b : Outside) → Levels a d → d ≡ 0 → enter (deep a) b ≡ stuck
  deepest a b h z = rw (le-ltb (deep a) DEPTH (omega arith))

  pub no_deeper_loop : (r : Result Unit Misplaced) → IsErr r → old.text ≡ s → w ≡ said.Loop → d ≡ 0 → ItemRead s w d old old r
  no_deeper_loop (Ok _) err same e z = absurd cc
  no_deeper_loop (Err _) err same e z = (same, λ x a h. led s (word_of w old) (inside x a) said.Loop e refl ∙ rw (deepest a (of_loop x a) h z))

  pub no_deeper_either : (r : Result Unit Misplaced) → IsErr r → old.text ≡ s → w ≡ said.Either → d ≡ 0 → ItemRead s w d old old r
  no_deeper_either (Ok _) err same e z = absurd cc
  no_deeper_either (Err _) err same e z = (same, λ x a h. led s (word_of w old) (inside x a) said.Either e refl ∙ rw (deepest a (of_first x a) h z))

  -- its nodes but those of its blocks are passed
  module _ (n : ℕ) (mid : Cursor) (same : old.text ≡ s) (p : Passed old n mid) where
    text_kept : mid.text ≡ s
    text_kept = p.text ∙ same

    pub item_fence : w ≡ said.Fence → n ≡ 1 → ItemRead s w d old mid (Ok tt)
    unfolding item_size ItemWithin
    item_fence e z =
        let past = (room said.Fence e refl).0 in
        let within = ok.found.within in (
          fence,
          text_kept,
          omega (arith, p.passed),
          omega (arith, p.end),
          omega (arith, p.end),
          record { within = tt; same = λ x a h. rw p.end (led s (word_of w old) (inside x a) said.Fence e refl) },
        )

    -- an access: its location is the word looked at next
    module _ (k : Kind) (e : w ≡ said.Access k) (one : n ≡ 1) where
      to_location : {v : Said} {new : Cursor} → Looked s mid new v → (x : SoFar) (a : Outside)
          → from_word s (inside x a) (word_of w old) ≡ from_word s (located (number_of k) x a) (word_of v new)
      to_location l x a =
          led s (word_of w old) (inside x a) (said.Access k) e refl ∙ ap (from s (located (number_of k) x a)) (sym p.end) ∙ rw l.ahead.same

      pub item_access : (new : Cursor) (r : Result Unit Misplaced) → Met IsNumber s mid new r → ItemRead s w d old new r
      unfolding item_size ItemWithin
      item_access new (Ok _) (v, l, (m, h)) =
          let past = (room (said.Access k) e refl).0 in
          let more = l.ahead.found.some (no_end (said.Number m) h refl) in
          let on = l.ahead.later in
          let end = p.end in
          let i = access (number_of k) m in (
            i,
            l.text,
            omega (arith, l.passed, p.passed),
            omega arith,
            l.ahead.found.within,
            record {
              within = tt;
              same = λ x a _. to_location l x a ∙ led s (word_of v new) (located (number_of k) x a) (said.Number m) h refl;
            },
          )
      item_access new (Err _) (v, l, other) = (
        l.text,
        λ x a h.
            to_location l x a
            ∙ stands_not s (word_of v new) l.ahead.found.none (located (number_of k) x a) refl (no_number (number_of k) x a v other),
      )

    -- a level is left: the blocks follow
    module _ (c : ℕ) (z : d ≡ c + 1) where
      into_loop : w ≡ said.Loop → (x : SoFar) (a : Outside) → Levels a d → from_word s (inside x a) (word_of w old) ≡ from s (opening (of_loop x a)) mid.end
      into_loop e x a h = led s (word_of w old) (inside x a) said.Loop e refl ∙ rw (lower a (of_loop x a) d h (omega arith), p.end)

      into_either : w ≡ said.Either → (x : SoFar) (a : Outside) → Levels a d
          → from_word s (inside x a) (word_of w old) ≡ from s (opening (of_first x a)) mid.end
      into_either e x a h = led s (word_of w old) (inside x a) said.Either e refl ∙ rw (lower a (of_first x a) d h (omega arith), p.end)

      -- the block that is read next, at whatever cursor, keeps the text
      next_block : (at new : Cursor) (r : Result Unit Misplaced) → at.text ≡ s → BlockRead at.text c at new r → BlockRead s c at new r
      next_block at new r kept = block_read s at new kept r c

      module _ (e : w ≡ said.Loop) where
        pub loop_bad : (new : Cursor) (r q : Result Unit Misplaced) → IsErr r → IsErr q → BlockRead mid.text c mid new q → ItemRead s w d old new r
        loop_bad new (Ok _) q err bad read = absurd cc
        loop_bad new (Err _) (Ok _) err bad read = absurd cc
        loop_bad new (Err _) (Err q) err bad read =
            let (text, f) = next_block mid new (Err q) text_kept read in
            (text, λ x a h. into_loop e x a h ∙ f (of_loop x a) (omega arith))

        pub item_loop : n ≡ 1 → (new : Cursor) (r : Result Unit Misplaced) → BlockRead mid.text c mid new r → ItemRead s w d old new r
        unfolding item_size ItemWithin
        item_loop one new (Ok _) read =
            let (b, text, size, far, within, span) = next_block mid new (Ok tt) text_kept read in
            let past = (room said.Loop e refl).0 in
            let end = p.end in
            let passed = p.passed in
            let left : d - 1 ≡ c = omega arith in (
              loop b,
              text,
              omega arith,
              omega arith,
              within,
              record { within = (omega arith, rw left span.within); same = λ x a h. into_loop e x a h ∙ span.same (of_loop x a) (omega arith) },
            )
        item_loop one new (Err r) read = loop_bad new (Err r) (Err r) refl refl read

      module _ (e : w ≡ said.Either) (half : Cursor) where
        pub first_bad : (r q : Result Unit Misplaced) → IsErr r → IsErr q → BlockRead mid.text c mid half q → ItemRead s w d old half r
        first_bad (Ok _) q err bad read = absurd cc
        first_bad (Err _) (Ok _) err bad read = absurd cc
        first_bad (Err _) (Err q) err bad read =
            let (text, f) = next_block mid half (Err q) text_kept read in
            (text, λ x a h. into_either e x a h ∙ f (of_first x a) (omega arith))

        -- BOTH BLOCKS OF AN EITHER ARE READ
        pub item_either : n ≡ 2 → BlockRead mid.text c mid half (Ok tt) → (new : Cursor) (r : Result Unit Misplaced) → BlockRead half.text c half new r
            → ItemRead s w d old new r
        unfolding item_size ItemWithin
        item_either two first new (Ok _) second =
            let (b, text, size, far, within, span) = next_block mid half (Ok tt) text_kept first in
            let (b', text', size', far', within', span') = next_block half new (Ok tt) text second in
            let past = (room said.Either e refl).0 in
            let end = p.end in
            let passed = p.passed in
            let left : d - 1 ≡ c = omega arith in (
              either b b',
              text',
              omega arith,
              omega arith,
              within',
              record {
                within = (omega arith, rw left span.within, rw left span'.within);
                same = λ x a h. into_either e x a h ∙ span.same (of_first x a) (omega arith) ∙ span'.same (of_second x b a) (omega arith);
              },
            )
        item_either two first new (Err r) second =
            let (b, text, size, far, within, span) = next_block mid half (Ok tt) text_kept first in
            let (text', f) = next_block half new (Err r) text second in
            (text', λ x a h. into_either e x a h ∙ span.same (of_first x a) (omega arith) ∙ f (of_second x b a) (omega arith))

-- what `Reader::item` finds by itself
pub ruleset items = (no_deeper_loop, no_deeper_either)
