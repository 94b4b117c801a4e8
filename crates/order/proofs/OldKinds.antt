-- A listing that has only the kinds of version 1: on ARMv8 it is as on ARMv7, question 5 as 2 and 6 as 3.
use mathlib.Core.Path.{◌≡◌, sym, ap, subst, ◌∙◌}
use mathlib.Core.Logic.{◌↔◌, inl}
use mathlib.Core.List.{List}
use mathlib.Core.Bool.{Bool, false, cond, ◌&&◌, ◌||◌, or-false}
use Prim.Native.Nat.{ℕ, ◌≤◌, ◌<◌}
use native.Mathlib.Omega.{arith}
use native.Mathlib.Decide.{dec_lt}
use lib.Dec.{T, eqb}
use lib.ListN.{length, get_or-eq_default}
use borrow.Author.Tests.{ne_eqb}
use Rattle.listing.specs.Kinds.{kinds_of, ACQUIRE, RELEASE, LOAD_FENCE, STORE_FENCE, ACQUIRE_PC}
use Rattle.listing.specs.Node.{Node, blank, Listing}
use Rattle.listing.specs.Bytes.{version_of, nodes_of}
use Rattle.listing.specs.Form.{Formed}
use Rattle.listing.proofs.Valid.{formed_valid}
use Rattle.listing.proofs.Bools.{neither_or, lacks_and}
use Rattle.order.specs.Walks.{kind_at, is_access, is_fence}
use Rattle.order.specs.Need.{Entry, need, leave, all_but_write_read, kept_by_armv8, entry}
use Rattle.order.specs.Need.{question, RmwInside, Says, Needs, bars_by_ends, bars, Unbarred}
use Rattle.order.specs.Verdict.{Fails, Verdict, robust, opened, Judged}
use Rattle.order.proofs.Lists.{all_in, in_all}

-- only kinds of version 1
abbrev pub Old : Listing → Type 0
Old L = (a : ℕ) → kind_at L a < kinds_of 1

-- a listing of version 1 whose form is right has no other
pub formed_old : (s : List ℕ) → Formed s → version_of s ≡ 1 → Old (nodes_of s)
formed_old s h e a = go (dec_lt a (length (nodes_of s)))
  where
    go : Dec (a < length (nodes_of s)) → kind_at (nodes_of s) a < kinds_of 1
    go (yes l) = subst (λ (v : ℕ). kind_at (nodes_of s) a < kinds_of v) e (formed_valid s h a l).kind
    go (no l) = subst (λ (n : Node). n.kind < kinds_of 1) (sym (get_or-eq_default (nodes_of s) blank (omega arith))) (omega arith)

-- none of these is one of version 2's
none : (k n : ℕ) → k < kinds_of 1 → kinds_of 1 ≤ n → eqb k n ≡ false
none k n h g = ne_eqb k n (λ e. omega arith)

kept_none : (j k : ℕ) → j < kinds_of 1 → k < kinds_of 1 → kept_by_armv8 j k ≡ false
kept_none j k hj hk =
    neither_or (eqb j ACQUIRE || eqb j ACQUIRE_PC) _
    (neither_or (eqb j ACQUIRE) _ (none j ACQUIRE hj (omega arith)) (none j ACQUIRE_PC hj (omega arith)))
    (neither_or (eqb k RELEASE) _ (none k RELEASE hk (omega arith))
    (lacks_and (eqb j RELEASE) _ (inl (none j RELEASE hj (omega arith)))))

ends_none : (j k c : ℕ) → c < kinds_of 1 → bars_by_ends j k c ≡ false
ends_none j k c hc =
    neither_or (eqb c LOAD_FENCE && _) _ (lacks_and (eqb c LOAD_FENCE) _ (inl (none c LOAD_FENCE hc (omega arith))))
    (lacks_and (eqb c STORE_FENCE) _ (inl (none c STORE_FENCE hc (omega arith))))

-- a question on ARMv8 and the one on ARMv7 that it is as
pub data As : ℕ → ℕ → Type 0 where
  sc : As 5 2
  x86 : As 6 3

entry_as : {q r : ℕ} → As q r → (j k : ℕ) → j < kinds_of 1 → k < kinds_of 1 → entry (question q) j k ≡ entry (question r) j k
entry_as sc j k hj hk = ap (λ (b : Bool). cond (is_access j && is_access k) (cond b leave need) leave) (kept_none j k hj hk)
entry_as x86 j k hj hk = ap (λ (b : Bool). cond (is_access j && is_access k) (cond b leave (all_but_write_read j k)) leave) (kept_none j k hj hk)

bars_as : {q r : ℕ} → As q r → (j k c : ℕ) → c < kinds_of 1 → bars (question q) j k c ≡ bars (question r) j k c
bars_as sc j k c hc = ap (λ (b : Bool). is_fence c || b) (ends_none j k c hc) ∙ or-false (is_fence c)
bars_as x86 j k c hc = ap (λ (b : Bool). is_fence c || b) (ends_none j k c hc) ∙ or-false (is_fence c)

module _ {q r : ℕ} (s : As q r) (L : Listing) (old : Old L) where
  needs_as : (a b : ℕ) → Needs q L a b ≡ Needs r L a b
  needs_as a b = ap (λ (e : Entry). Says e (RmwInside L a b)) (entry_as s (kind_at L a) (kind_at L b) (old a) (old b))

  unbarred_as : (a b : ℕ) (xs : List ℕ) → Unbarred q L a b xs ↔ Unbarred r L a b xs
  unbarred_as a b xs = (
    λ u. in_all _ xs (λ c i t. all_in _ xs u c i (subst T (sym (same c)) t)),
    λ u. in_all _ xs (λ c i t. all_in _ xs u c i (subst T (same c) t)),
  )
    where
      same : (c : ℕ) → bars (question q) (kind_at L a) (kind_at L b) (kind_at L c) ≡ bars (question r) (kind_at L a) (kind_at L b) (kind_at L c)
      same c = bars_as s (kind_at L a) (kind_at L b) (kind_at L c) (old c)

  pub fails_as : (a b : ℕ) → Fails q L a b ↔ Fails r L a b
  fails_as a b = (
    λ f. record {
      chain = f.chain;
      needs = subst (λ (A : Type 0). A) (needs_as a b) f.needs;
      apart = f.apart;
      unbarred = (f.unbarred.0, f.unbarred.1, (unbarred_as a b f.unbarred.0).0 f.unbarred.2);
    },
    λ f. record {
      chain = f.chain;
      needs = subst (λ (A : Type 0). A) (sym (needs_as a b)) f.needs;
      apart = f.apart;
      unbarred = (f.unbarred.0, f.unbarred.1, (unbarred_as a b f.unbarred.0).1 f.unbarred.2);
    },
  )

  -- A LISTING OF VERSION 1'S KINDS HAS ON ARMV8 THE VERDICT THAT IT HAS ON ARMV7
  pub judged_as : (v : Verdict) → Judged q L v ↔ Judged r L v
  judged_as robust = (λ h a b f. h a b ((fails_as a b).1 f), λ h a b f. h a b ((fails_as a b).0 f))
  judged_as (opened p rest) = (
    λ h. (record { fails = (fails_as p.0 p.1).0 h.0.fails; first = λ a b f. h.0.first a b ((fails_as a b).1 f) }, h.1),
    λ h. (record { fails = (fails_as p.0 p.1).1 h.0.fails; first = λ a b f. h.0.first a b ((fails_as a b).0 f) }, h.1),
  )
