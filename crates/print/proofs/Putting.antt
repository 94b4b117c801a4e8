-- What is put at the start of a buffer is what stands there.
use mathlib.Core.Path.{◌≡◌, ap, ◌∙◌}
use mathlib.Core.List.{List, ◌++◌}
use Prim.Native.Nat.{ℕ, ◌≤◌}
use native.Mathlib.Omega.{arith}
use lib.ListN.{length, take, drop}
use lib.Seq.{sets, length-sets, take-append_seam}
use Rattle.listing.proofs.Stores.{fills}

pub put_front : (old new text : List ℕ) (r : ℕ) → new ≡ sets old 0 text → r ≡ length text → r ≤ length new → take r new ≡ text
put_front old new text r put end within =
    let size = ap length put ∙ length-sets old 0 text in
    let rest = drop (length text) old in
    ap (take r) (put ∙ fills text old (omega arith)) ∙ ap (λ (k : ℕ). take k (text ++ rest)) end ∙ take-append_seam text rest
