-- The bytes of the chain to show: its first pair, and then what follows.
use mathlib.Core.Path.{◌≡◌, sym, ap, ap₂, ◌∙◌, subst}
use mathlib.Core.List.{List, [], ◌∷◌, ◌++◌, append-nil}
use Prim.Native.Nat.{ℕ, ◌+◌, ◌-◌, ◌≤◌}
use native.Mathlib.Omega.{arith}
use lib.ListN.{length, take, drop, set}
use lib.Seq.{take-length, drop-length}
use borrow.Rule.Slice.PartMut.{put_mid, mid_of}
use Rattle.listing.specs.Limits.{NODES}
use Rattle.listing.specs.Node.{Listing}
use Rattle.listing.specs.Bytes.{nodes_of}
use Rattle.listing.specs.Inner.Whole.{Whole}
use Rattle.listing.specs.Answer.{filled}
use Rattle.listing.proofs.Nodes.{nodes_length}
use Rattle.order.proofs.Least.{shown_bound}
use Rattle.verdict.specs.Judging.{chain_bytes}
use Rattle.verdict.specs.Inner.Showing.{Followed, Showed}

-- the chain to show has few pairs
pub few : (s : List ℕ) (a b : ℕ) (old new : List ℕ) (i : ℕ) → Whole s → Followed (nodes_of s) a b old new i → i ≤ NODES
few s a b old new i w f = omega (arith, f.count, shown_bound (nodes_of s) (a, b) f.rest f.shown, nodes_length s, w.few)

-- the buffer with a pair at its start
abbrev pub headed : List ℕ → ℕ → ℕ → List ℕ
headed old a b = set (set old 0 a) 1 b

-- a buffer from place 2 on, and with that part put back
abbrev rest : List ℕ → List ℕ
rest z = mid_of 2 (length z - 2) z

abbrev with_rest : List ℕ → List ℕ → List ℕ
with_rest z part = put_mid 2 (length z - 2) z part

put_first : (old l : List ℕ) (a b : ℕ) → 2 ≤ length old
    → with_rest (headed old a b) (filled l (rest (headed old a b))) ≡ filled (a ∷ b ∷ l) old
put_first [] l a b h = absurd (omega arith)
put_first (x ∷ []) l a b h = absurd (omega arith)
put_first (x ∷ y ∷ xs) l a b h =
    let e : length (a ∷ b ∷ xs) - 2 ≡ length xs = omega arith in
    subst (λ (k : ℕ). put_mid 2 k (a ∷ b ∷ xs) (filled l (mid_of 2 k (a ∷ b ∷ xs))) ≡ filled (a ∷ b ∷ l) (x ∷ y ∷ xs)) (sym e) whole
  where
    whole : a ∷ b ∷ ((l ++ drop (length l) (take (length xs) xs)) ++ drop (length xs) xs) ≡ a ∷ b ∷ (l ++ drop (length l) xs)
    whole =
        ap (λ (v : List ℕ). a ∷ b ∷ v)
        (ap₂ (λ (u v : List ℕ). (l ++ drop (length l) u) ++ v) (take-length xs) (drop-length xs) ∙ append-nil (l ++ drop (length l) xs))

-- THE CHAIN STANDS at the buffer's start, its first pair as the code has it
pub showed : (L : Listing) (x y a b : ℕ) → x ≡ a → y ≡ b → (old part : List ℕ) (i : ℕ) → 2 ≤ length old
    → Followed L a b (rest (headed old x y)) part i → Showed L a b old (with_rest (headed old x y) part) (i + 1)
showed L x y a b ex ey old part i h f =
    let g : Followed L a b (rest (headed old a b)) part i = rw (ex, ey) at f in
    rw (ex, ey) record {
      rest = g.rest;
      shown = g.shown;
      count = omega (arith, g.count);
      bytes = ap (with_rest (headed old a b)) g.bytes ∙ put_first old (chain_bytes g.rest) a b h;
    }
