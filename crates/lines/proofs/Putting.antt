-- Text put piece after piece is one text.
use mathlib.Core.Path.{◌≡◌, sym, ap, ◌∙◌}
use mathlib.Core.List.{List, [], ◌++◌, append-nil, append_assoc}
use Prim.Native.Nat.{ℕ, ◌+◌, ◌-◌, ◌≤◌}
use native.Mathlib.Omega.{arith}
use borrow.Rule.Slice.PartMut.{put_mid, mid_of, post_of}
use lib.ListN.{length, take, drop, length-drop, length-append, drop_of_length-le}
use lib.Seq.{sets, sets-eq, take_all, drop-drop}
use Rattle.listing.specs.Answer.{filled}
use Rattle.listing.proofs.Stores.{sets_append}
use Rattle.lines.specs.Inner.Put.{Put}

-- text copied to the part of a buffer that starts at a place
pub in_place : (l text : List ℕ) (at : ℕ) → at + length text ≤ length l
    → put_mid at (length l - at) l (filled text (mid_of at (length l - at) l)) ≡ sets l at text
in_place l text at h =
    let d = drop at l in
    let k = length l - at in
    let size : length d ≤ k = omega (arith, length-drop at l) in
    let mid : mid_of at k l ≡ d = take_all k d size in
    let post : post_of at k l ≡ [] = drop_of_length-le d size in
    ap (λ (p : List ℕ). take at l ++ (filled text (mid_of at k l) ++ p)) post
    ∙ ap (λ (p : List ℕ). take at l ++ p) (append-nil (filled text (mid_of at k l)))
    ∙ ap (λ (p : List ℕ). take at l ++ filled text p) mid
    ∙ ap (λ (p : List ℕ). take at l ++ (text ++ p)) (drop-drop (length text) at l)
    ∙ sym (append_assoc (take at l) text (drop (at + length text) l))
    ∙ sym (sets-eq text l at h)

-- ONE PIECE AFTER ANOTHER
pub both_put : {a b c : List ℕ} {i j k : ℕ} {xs ys : List ℕ} → Put a i xs b j → Put b j ys c k → Put a i (xs ++ ys) c k
both_put {a} {b} {c} {i} {j} {k} {xs} {ys} p q = record {
  stored =
      q.stored
      ∙ ap (λ (l : List ℕ). sets l j ys) p.stored
      ∙ ap (λ (m : ℕ). sets (sets a i xs) m ys) p.goes_on
      ∙ sym (sets_append a xs ys i);
  goes_on = omega (arith, q.goes_on, p.goes_on, length-append xs ys);
}

-- what is still to be put, of a whole text that was begun elsewhere
pub record Left (old : List ℕ) (at : ℕ) (whole now : List ℕ) (here : ℕ) (rest : List ℕ) : Type 0 where
  pub stored : sets now here rest ≡ sets old at whole
  pub goes_on : here + length rest ≡ at + length whole

pub all_left : {old whole rest : List ℕ} {at : ℕ} → rest ≡ whole → Left old at whole old at rest
all_left {old} {whole} {rest} {at} e = record { stored = ap (sets old at) e; goes_on = ap (λ (t : List ℕ). at + length t) e }

pub less_left : {old whole now later rest xs ys : List ℕ} {at here there : ℕ}
    → Left old at whole now here rest → rest ≡ xs ++ ys → Put now here xs later there → Left old at whole later there ys
less_left {old} {whole} {now} {later} {rest} {xs} {ys} {at} {here} {there} l e p = record {
  stored =
      ap (λ (b : List ℕ). sets b there ys) p.stored
      ∙ ap (λ (m : ℕ). sets (sets now here xs) m ys) p.goes_on
      ∙ sym (sets_append now xs ys here)
      ∙ ap (sets now here) (sym e)
      ∙ l.stored;
  goes_on = omega (arith, l.goes_on, p.goes_on, length-append xs ys, ap length e);
}

pub none_left : {old whole now rest : List ℕ} {at here : ℕ} → Left old at whole now here rest → rest ≡ [] → Put old at whole now here
none_left {old} {whole} {now} {rest} {at} {here} l e = record {
  stored = ap (sets now here) (sym e) ∙ l.stored;
  goes_on = omega (arith, l.goes_on, ap length e);
}
