-- Need for order, and barriers, question by question.
use Rattle.std.specs.Prelude.{List, Bool, cond, ◌&&◌, ◌||◌, ℕ, ◌≤◌, T, eqb}
use Rattle.listing.specs.Kinds.{READ, ACQUIRE, RELEASE, LOAD_FENCE, STORE_FENCE, ACQUIRE_PC}
use Rattle.listing.specs.Node.{Listing}
use Rattle.order.specs.Rows.{All, In}
use Rattle.order.specs.Walks.{kind_at, counts_read, counts_write, counts_rmw, is_access, is_fence, Walk}

-- "Questions: 1 SC on x86; 2 SC on ARMv7; 3 x86 on ARMv7; 4 ARMv8 on ARMv7; 5 SC on ARMv8; 6 x86 on ARMv8"
pub data Question : Type 0 where
  sc_on_x86 sc_on_armv7 x86_on_armv7 armv8_on_armv7 sc_on_armv8 x86_on_armv8 : Question

-- how many there are
abbrev pub QUESTIONS : ℕ
QUESTIONS = 6

-- q is a question's number
pub record Asked (q : ℕ) : Type 0 where
  pub least : 1 ≤ q
  pub most : q ≤ QUESTIONS

-- the question of that number
abbrev pub question : ℕ → Question
question q =
    cond (eqb q 1) sc_on_x86
    (cond (eqb q 2) sc_on_armv7 (cond (eqb q 3) x86_on_armv7 (cond (eqb q 4) armv8_on_armv7 (cond (eqb q 5) sc_on_armv8 x86_on_armv8))))

-- an entry of the need-for-order table: "one entry says need, leave, or leave unless RMW inside"
pub data Entry : Type 0 where
  need leave leave_unless_rmw : Entry

-- "write then read"
abbrev pub write_then_read : ℕ → ℕ → Bool
write_then_read k₁ k₂ = counts_write k₁ && counts_read k₂

-- "every pair, but write then read only if some walk between them has an RMW inside"
abbrev pub all_but_write_read : ℕ → ℕ → Entry
all_but_write_read k₁ k₂ = cond (write_then_read k₁ k₂) leave_unless_rmw need

-- "no need if the first is kind 5 or 9, or the second is kind 6, or the first is kind 6 and the second kind 5"
abbrev pub kept_by_armv8 : ℕ → ℕ → Bool
kept_by_armv8 k₁ k₂ = (eqb k₁ ACQUIRE || eqb k₁ ACQUIRE_PC) || (eqb k₂ RELEASE || (eqb k₁ RELEASE && eqb k₂ ACQUIRE))

-- "Pairs that need order", by question and the kinds of the two accesses: "write then read"; "every pair"; "every pair, but write
-- then read [..]"; "every pair whose first is not a write"; "as 2, but [..]"; "as 3, but for accesses that ARMv8 keeps in order itself"
abbrev pub between : Question → ℕ → ℕ → Entry
between sc_on_x86 k₁ k₂ = cond (write_then_read k₁ k₂) need leave
between sc_on_armv7 k₁ k₂ = need
between x86_on_armv7 k₁ k₂ = all_but_write_read k₁ k₂
between armv8_on_armv7 k₁ k₂ = cond (counts_write k₁) leave need
between sc_on_armv8 k₁ k₂ = cond (kept_by_armv8 k₁ k₂) leave need
between x86_on_armv8 k₁ k₂ = cond (kept_by_armv8 k₁ k₂) leave (all_but_write_read k₁ k₂)

-- "where either kind is no access, the entry says no need"
abbrev pub entry : Question → ℕ → ℕ → Entry
entry q k₁ k₂ = cond (is_access k₁ && is_access k₂) (between q k₁ k₂) leave

-- "some walk between them has an RMW inside"
abbrev pub RmwInside : Listing → ℕ → ℕ → Type 0
RmwInside L a b = (inside : List ℕ) × (c : ℕ) × Walk L a inside b × In c inside × T (counts_rmw (kind_at L c))

-- what an entry says, where `rmw` is that some walk has an RMW inside
abbrev pub Says : Entry → Type 0 → Type 0
Says need rmw = Unit {0}
Says leave rmw = ⊥
Says leave_unless_rmw rmw = rmw

-- the pair needs order
abbrev pub Needs : ℕ → Listing → ℕ → ℕ → Type 0
Needs q L a b = Says (entry (question q) (kind_at L a) (kind_at L b)) (RmwInside L a b)

-- "a load fence inside is a barrier where the first is kind 1; a store fence where both ends are kind 2 or 6"
abbrev pub bars_by_ends : ℕ → ℕ → ℕ → Bool
bars_by_ends k₁ k₂ k = (eqb k LOAD_FENCE && eqb k₁ READ) || (eqb k STORE_FENCE && (counts_write k₁ && counts_write k₂))

-- "Barriers", by question, the kinds of a pair's ends, and the kind inside: "fence, RMW"; "fence"; "fence; load fence and store fence, by the ends"
abbrev pub bars : Question → ℕ → ℕ → ℕ → Bool
bars sc_on_x86 k₁ k₂ k = is_fence k || counts_rmw k
bars sc_on_armv7 k₁ k₂ k = is_fence k
bars x86_on_armv7 k₁ k₂ k = is_fence k
bars armv8_on_armv7 k₁ k₂ k = is_fence k
bars sc_on_armv8 k₁ k₂ k = is_fence k || bars_by_ends k₁ k₂ k
bars x86_on_armv8 k₁ k₂ k = is_fence k || bars_by_ends k₁ k₂ k

abbrev pub Barrier : ℕ → Listing → ℕ → ℕ → ℕ → Type 0
Barrier q L a b c = T (bars (question q) (kind_at L a) (kind_at L b) (kind_at L c))

-- no barrier is inside
abbrev pub Unbarred : ℕ → Listing → ℕ → ℕ → List ℕ → Type 0
Unbarred q L a b inside = All (λ c. Barrier q L a b c → ⊥) inside
