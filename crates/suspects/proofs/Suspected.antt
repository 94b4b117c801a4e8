-- From the pairs on a chain to those that no barrier bars either.
use Prim.Native.Nat.{ℕ, ◌≤◌}
use mathlib.Core.List.{List}
use native.Mathlib.Omega.{arith}
use Rattle.listing.specs.Node.{Listing}
use Rattle.rows.specs.Inner.Rows.{Holds}
use Rattle.rows.specs.Inner.Thinned.{Thinned}
use Rattle.rows.proofs.Holds.{holds_low, holds_map}
use Rattle.reach.proofs.Thinned.{thinned_all}
use Rattle.barriers.specs.Inner.Clear.{Clear}
use Rattle.suspects.specs.Inner.Suspect.{OnChain, Suspect}

-- SUSPECTS: on a chain, and no barrier on some walk
pub suspects_hold : (q : ℕ) {L : Listing} {n : ℕ} → n ≤ 128 → {c c' : List ℕ} → Holds c n (OnChain L) → Thinned (Clear q L) c c' n → Holds c' n (Suspect q L)
suspects_hold q small {c} {c'} hc t =
    holds_map (λ a b la lb g. ((hc.sound a b (omega arith) g.0).2, g.1)) (λ a b la lb s. (hc.whole a b la lb s.0, s.1))
    (thinned_all c c' _ small (holds_low hc) t)
