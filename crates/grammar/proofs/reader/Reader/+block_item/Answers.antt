-- The block reader and the item reader meet their contracts: each way out is a law of the grammar. Unread bytes with depth left fall.
use mathlib.Core.Path.{refl, ap}
use Prim.Native.Nat.{ℕ}
use native.Mathlib.Omega.{arith}
use lib.ListN.{length}
use Rattle.std.specs.Prelude.{Ok, Err}
use Rattle.std.proofs.Common.{rules}
use Rattle.std.proofs.lemmas.Result.{err_from_is_err_and}
use Rattle.grammar.specs.Inner.Reader.{IsNumber, BlockGoes, ItemRead}
use Rattle.grammar.proofs.Kept.{looked, met, item_read}
use Rattle.grammar.proofs.Items.{item_other, item_fence, item_access, item_loop, first_bad, item_either}
use Rattle.grammar.proofs.Blocks.{block_bad, block_opens, item_ahead, item_bad, item_on, block_goes, block_empty, block_closes}
use Rattle.grammar.proofs.reader.Reader.+block_item.Goals as goal
use Rattle.grammar.proofs.reader.Reader.+block_item.Goals.{block-After-look-word-in-loop-self}

-- ── The block reader ──────────────────────────────────────────────────────
pub block-returns-in_err-brace : goal.block-returns-in_err-brace
block-returns-in_err-brace t c =
    let p = err_from_is_err_and c.from_residual.result c.from_residual.ensures.1 in
    let (w, look, other) = c.in_err-brace.ensures in
    rw p.1 (block_bad _ _ _ w _ look other)

pub block-returns-in-Close : goal.block-returns-in-Close
block-returns-in-Close t c =
    let (w, look, is) = c.in_ok-brace.ensures in
    let goes = block_opens _ _ _ w _ look is _ _ (looked look.text c.look-word.ensures) in
    block_empty _ _ _ _ _ goes c.in-Close.is (omega (arith, look.passed, c.look-word.ensures.passed))

pub block-loop-self-init : goal.block-loop-self-init
block-loop-self-init t c =
    let (w, look, is) = c.in_ok-brace.ensures in
    (block_opens _ _ _ w _ look is _ _ (looked look.text c.look-word.ensures), c.in_default.not-Close)

pub block-item-requires : goal.block-item-requires
block-item-requires t c =
    let (g, goes) = c.loop-self.invariant in
    let ahead = item_ahead _ _ _ _ _ g goes in
    (omega (arith, ap length g.text, g.later, g.within, c.decreases), ahead)

pub block-returns-in_err-item : goal.block-returns-in_err-item
block-returns-in_err-item t c =
    let p = err_from_is_err_and c.from_residual-in_err-item.result c.from_residual-in_err-item.ensures.1 in
    let o = c.args in
    let g = c.loop-self.invariant.0 in
    let read = item_read o.self.now.text c.loop-self.self c.item.new.self g.text (Err _) c.loop-self.word o.depth c.in_err-item.ensures in
    rw p.1 (item_bad _ _ _ _ _ g c.item.new.self read)

-- one item more was read
read : (t : ℕ) (c : block-After-look-word-in-loop-self t) → ItemRead c.args.self.now.text c.loop-self.word c.args.depth c.loop-self.self c.item.new.self (Ok tt)
read t c =
    let o = c.args in
    item_read o.self.now.text c.loop-self.self c.item.new.self c.loop-self.invariant.0.text (Ok tt) c.loop-self.word o.depth c.in_ok-item.ensures

more : (t : ℕ) (c : block-After-look-word-in-loop-self t)
    → BlockGoes c.args.self.now.text c.args.depth c.args.self.now c.look-word-in-loop-self.new.self c.look-word-in-loop-self.result
more t c =
    let r = read t c in
    block_goes _ _ _ _ _ c.loop-self.invariant.0 c.item.new.self r _ _ (looked r.1 c.look-word-in-loop-self.ensures)

pub block-returns-in-Close-word : goal.block-returns-in-Close-word
block-returns-in-Close-word t c =
    let at = goal.at.block-returns-in-Close-word t c in
    let on = item_on _ _ _ _ _ c.loop-self.invariant.0 c.item.new.self (read t at.After-look-word-in-loop-self) in
    block_closes _ _ _ _ _ (more t at.After-look-word-in-loop-self) c.in-Close-word.is (omega (arith, c.look-word-in-loop-self.ensures.passed, on.2))

pub block-loop-self-smaller : goal.block-loop-self-smaller
block-loop-self-smaller t c =
    let r = read t (goal.at.block-loop-self-smaller t c).After-look-word-in-loop-self in
    let on = item_on _ _ _ _ _ c.loop-self.invariant.0 c.item.new.self r in
    omega (arith, on.0, on.1, c.look-word-in-loop-self.ensures.ahead.later)

pub block-loop-self-preserved : goal.block-loop-self-preserved
block-loop-self-preserved t c = (
  more t (goal.at.block-loop-self-preserved t c).After-look-word-in-loop-self,
  c.in_default-word.not-Close,
)

-- ── The item reader ───────────────────────────────────────────────────────
pub item-returns-in_err-block-in-Either : goal.item-returns-in_err-block-in-Either
item-returns-in_err-block-in-Either t c =
    first_bad _ _ _ _ c.requires _ _ refl c.pass-in-Either.ensures _ (search rules) (search rules) _ _ _ (search rules) (search rules) c.block-in-Either.ensures

pub item-returns-in-Access : goal.item-returns-in-Access
item-returns-in-Access t c =
    let pass = c.pass.ensures in
    let next = met c.args.self.now.text c.pass.new.self c.location.new.self pass.text _ IsNumber c.location.ensures in
    item_access _ _ _ _ c.requires _ _ refl pass _ c.in-Access.is refl _ _ next

pub item-returns-in-Fence : goal.item-returns-in-Fence
item-returns-in-Fence t c = item_fence _ _ _ _ c.requires _ _ refl c.pass-in-Fence.ensures c.in-Fence.is refl

pub item-returns-in_ok-inside-in-Loop : goal.item-returns-in_ok-inside-in-Loop
item-returns-in_ok-inside-in-Loop t c =
    item_loop _ _ _ _ c.requires _ _ refl c.pass-in-Loop.ensures _ c.in_ok-inside-in-Loop.ensures c.in-Loop.is refl _ _ c.block.ensures

pub item-returns-in_ok-block-in-Either : goal.item-returns-in_ok-block-in-Either
item-returns-in_ok-block-in-Either t c =
    item_either _ _ _ _ c.requires _ _ refl c.pass-in-Either.ensures _ c.in_ok-inside-in-Either.ensures c.in-Either.is
    c.block-in-Either.new.self refl c.in_ok-block-in-Either.ensures _ _ c.block-in-Either-2.ensures

pub item-returns-in_default : goal.item-returns-in_default
item-returns-in_default t c =
    let other = c.in_default in
    item_other _ _ _ _ c.requires refl
    (record { access = other.not-Access; fence = other.not-Fence; loop = other.not-Loop; either = other.not-Either; close = c.requires.going })
