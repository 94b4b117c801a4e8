-- From what the failing-pair test reads to whether the pair fails.
use mathlib.Core.Path.{◌≡◌, sym, subst}
use mathlib.Core.Bool.{Bool, false, not}
use mathlib.Core.List.{List}
use Prim.Native.Nat.{ℕ, ◌≤◌, ◌<◌}
use native.Mathlib.Omega.{arith}
use Rattle.listing.specs.Bytes.{count_n, nodes_of}
use Rattle.listing.specs.Node.{Listing}
use Rattle.order.specs.Walks.{kind_at}
use Rattle.order.specs.Chains.{SurelyMeet, IsPair}
use Rattle.order.specs.Need.{question, Entry, leave_unless_rmw, entry, Says, Needs, RmwInside}
use Rattle.order.specs.Verdict.{Fails}
use Rattle.rows.specs.Inner.Rows.{Has, Tells, Holds}
use Rattle.suspects.specs.Inner.Suspect.{Suspect, Exchanged}
use Rattle.failing.specs.Inner.Failing.{AskedOf, Prepared}
use Rattle.rows.proofs.Tells.{tells_yes, told_map}

-- what holds of a search's fields holds of what a contract sees of it
pub seen : {q : ℕ} {bytes c i : List ℕ} {v : AskedOf} → record { question = q; bytes = bytes } ≡ v → Prepared q bytes c i
    → Prepared v.question v.bytes c i
seen {c = c} {i = i} e p = subst (λ (v : AskedOf). Prepared v.question v.bytes c i) e p

-- a suspect is a pair
pub suspect_pair : (q : ℕ) (L : Listing) (a b : ℕ) → Suspect q L a b → IsPair L (a, b)
suspect_pair q L a b s = s.0.1.pairs.0

-- a suspect that needs order, with ends that don't surely meet, fails
pub suspect_fails : (q : ℕ) (L : Listing) (a b : ℕ) → Suspect q L a b → Needs q L a b → (SurelyMeet L a b → ⊥) → Fails q L a b
suspect_fails q L a b s n k = record { chain = s.0; needs = n; apart = k; unbarred = s.1 }

pub fails_suspect : (q : ℕ) (L : Listing) (a b : ℕ) → Fails q L a b → Suspect q L a b
fails_suspect q L a b f = (f.chain, f.unbarred)

-- the rows name every pair that fails
pub in_row : {q : ℕ} {bytes c i : List ℕ} → Prepared q bytes c i → (a n : ℕ) → n ≡ count_n bytes → a < count_n bytes
    → (z : ℕ) → z < n → Fails q (nodes_of bytes) a z → Has c a z
in_row p a n e la z lz f = p.suspects.whole a z la (omega arith) (fails_suspect _ _ a z f)

-- what the rows name is a suspect
pub suspected : {q : ℕ} {bytes c i : List ℕ} → Prepared q bytes c i → (a b : ℕ) → b < count_n bytes
    → (r : Bool) → not r ≡ false → Tells r (Has c a b) → Suspect q (nodes_of bytes) a b
suspected {q} {bytes} {c} {i} p a b l r e t = (p.suspects.sound a b (omega (arith, p.whole.few)) (tells_yes (Has c a b) r e t)).2

-- the table's entry of a pair
abbrev entry_at : ℕ → Listing → ℕ → ℕ → Entry
entry_at q L a b = entry (question q) (kind_at L a) (kind_at L b)

-- what an entry says of a pair
abbrev SaysOf : Listing → ℕ → ℕ → Entry → Type 0
SaysOf L a b e = Says e (RmwInside L a b)

-- THE ROWS OF AN RMW INSIDE DECIDE where the table leaves it to them
pub unless_inside : (q : ℕ) (L : Listing) (a b : ℕ) → Suspect q L a b → (SurelyMeet L a b → ⊥) → (i : List ℕ) (n : ℕ) → n ≤ 128
    → a < n → b < n → Holds i n (Exchanged L) → leave_unless_rmw ≡ entry_at q L a b → (r : Bool) → Tells r (Has i a b) → Tells r (Fails q L a b)
unless_inside q L a b s apart i n small la lb hi e r t =
    let pair = suspect_pair q L a b s in
    told_map (Has i a b) (Fails q L a b) r
    (λ h. suspect_fails q L a b s (subst (SaysOf L a b) e (hi.sound a b (omega arith) h).2.2) apart)
    (λ f. hi.whole a b la lb (pair.from, pair.to, subst (SaysOf L a b) (sym e) f.needs)) t
