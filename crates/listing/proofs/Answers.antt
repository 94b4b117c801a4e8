-- What a reader's answer says of the table by which it was made.
use mathlib.Core.Path.{◌≡◌, refl, sym, ap, ap₂, ◌∙◌}
use mathlib.Core.List.{List}
use Prim.Native.Nat.{ℕ}
use Rattle.std.specs.Prelude.{Result, Ok, Err, IfOk}
use native.Mathlib.Omega.{arith}
use Rattle.listing.specs.Rules.{Refusal, passed, refused}
use Rattle.listing.specs.Answer.{Answer, done, refusal}
use Rattle.listing.specs.Form.{read_says, listing_says, read_by}
use Rattle.listing.specs.declared.reason.Reason.{Reason}
use Rattle.listing.specs.declared.records.Counts.{Counts}
use Rattle.listing.proofs.Reasons.{reasons_apart}

pub refused_by : (y : Refusal) (n f k p : ℕ) → read_by y n f ≡ refusal k p → y ≡ refused k p
refused_by passed n f k p e = let z : ◌≡◌ {A = ℕ} 0 2 = ap (λ (a : Answer). a.kind) e in absurd (omega arith)
refused_by (refused j q) n f k p e = ap₂ refused (ap (λ (a : Answer). a.first) e) (ap (λ (a : Answer). a.second) e)

pub done_by : (y : Refusal) (n f m g : ℕ) → read_by y n f ≡ done m g 0 → (y ≡ passed) × (m ≡ n) × (g ≡ f)
done_by passed n f m g e = (refl, sym (ap (λ (a : Answer). a.first) e), sym (ap (λ (a : Answer). a.second) e))
done_by (refused j q) n f m g e = let z : ◌≡◌ {A = ℕ} 2 0 = ap (λ (a : Answer). a.kind) e in absurd (omega arith)

-- ANSWERS THAT SAY THE SAME ARE EQUAL
pub says_apart : (a b : Result Counts Reason) → read_says a ≡ read_says b → a ≡ b
says_apart (Ok a) (Ok b) e =
    ap₂ (λ (n f : ℕ). Ok (record { nodes = n; routines = f })) (ap (λ (x : Answer). x.first) e) (ap (λ (x : Answer). x.second) e)
says_apart (Ok a) (Err r) e = let z : ◌≡◌ {A = ℕ} 0 2 = ap (λ (x : Answer). x.kind) e in absurd (omega arith)
says_apart (Err r) (Ok b) e = let z : ◌≡◌ {A = ℕ} 2 0 = ap (λ (x : Answer). x.kind) e in absurd (omega arith)
says_apart (Err r) (Err t) e = ap Err (reasons_apart r t (ap (λ (x : Answer). x.first) e) (ap (λ (x : Answer). x.second) e))

-- and so are listings, where what was read is the same
pub listings_apart : (s : List ℕ) (a b : Result (List ℕ) Reason) → IfOk a (λ l. l ≡ s) → IfOk b (λ l. l ≡ s) → listing_says a ≡ listing_says b → a ≡ b
listings_apart s (Ok a) (Ok b) p q e = ap Ok (p ∙ sym q)
listings_apart s (Ok a) (Err r) p q e = let z : ◌≡◌ {A = ℕ} 0 2 = ap (λ (x : Answer). x.kind) e in absurd (omega arith)
listings_apart s (Err r) (Ok b) p q e = let z : ◌≡◌ {A = ℕ} 2 0 = ap (λ (x : Answer). x.kind) e in absurd (omega arith)
listings_apart s (Err r) (Err t) p q e = ap Err (reasons_apart r t (ap (λ (x : Answer). x.first) e) (ap (λ (x : Answer). x.second) e))
