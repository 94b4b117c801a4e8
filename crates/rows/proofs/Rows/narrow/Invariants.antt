-- `Rows::narrow` meets its contract: the words below i are combined with those of f, and the others are as they were.
use mathlib.Core.Path.{◌≡◌}
use Prim.Native.Nat.{ℕ, ◌<◌, ◌≤◌}
use lib.Bits.{bit_and}
use lib.ListN.{length, get_or}
use Rattle.rows.proofs.Rows.narrow.Given as goal

abbrev pub invariant-loop-i : goal.invariant-loop-i
invariant-loop-i g l = record {
  done : (j : ℕ) → j < l.i → get_or l.x-items j 0 ≡ bit_and (get_or l.initial.x-items j 0) (get_or l.f j 0);
  ahead : (j : ℕ) → l.i ≤ j → get_or l.x-items j 0 ≡ get_or l.initial.x-items j 0;
  long : length l.x-items ≡ length l.initial.x-items;
}
