-- The digits that `io::decimal` writes are the number in decimal, and how many they are.
use mathlib.Core.Path.{◌≡◌, refl, sym, ap, subst, ◌∙◌}
use mathlib.Core.Bool.{Bool, true, false, not, cond}
use mathlib.Core.List.{List, [], ◌∷◌, ◌++◌}
use Prim.Native.Nat.{ℕ, zero, suc, ◌+◌, ◌-◌, ◌/◌, ◌%◌, ◌^◌, ◌≤◌, ◌<◌}
use native.Mathlib.Nat.{pow-suc, one-le-pow, pow-le-pow_right}
use native.Mathlib.Omega.{arith}
use borrow.Author.Tests.{lt-ltb, le-ltb}
use lib.Dec.{T, leb, ltb, leb→le, nleb→lt}
use lib.ListN.{length, length-append}
use Rattle.io.specs.Digits as io
use Rattle.listing.specs.Ascii.{bytes}
use Rattle.lines.specs.Text.{digit, digits, decimal, next, pair}

glyph : (d : ℕ) → d < 10 → io.hex_digit_ascii d ≡ 48 + d
glyph d h = ap (λ (b : Bool). cond b (48 + d) (87 + d)) (lt-ltb d 10 h)

-- a number below 10 is its own digit
alone : (f n : ℕ) → n < 10 → digits (suc f) n ≡ digit n
alone f n h = ap (λ (b : Bool). cond b (digit n) (digits f (n / 10) ++ digit (n % 10))) (lt-ltb n 10 h)

-- any other one ends with its last digit
longer : (f n : ℕ) → 10 ≤ n → digits (suc f) n ≡ digits f (n / 10) ++ digit (n % 10)
longer f n h = ap (λ (b : Bool). cond b (digit n) (digits f (n / 10) ++ digit (n % 10))) (le-ltb n 10 h)

same : (k f n : ℕ) → 1 ≤ k → n < 10 ^ k → (1 < k → 10 ^ (k - 1) ≤ n) → k ≤ f → io.last_digits 10 k n ≡ digits f n
same zero f n one low high h = absurd (omega arith)
same (suc k) zero n one low high h = absurd (omega arith)
same (suc zero) (suc f) n one low high h =
    let small : n < 10 = omega arith in
    let whole : n % 10 ≡ n = omega arith in
    ap (λ (d : ℕ). io.hex_digit_ascii d ∷ []) whole ∙ ap (λ (g : ℕ). g ∷ []) (glyph n small) ∙ sym (alone f n small)
same (suc (suc k)) (suc f) n one low high h =
    let p = 10 ^ k in
    let less : suc (suc k) - 1 ≡ suc k = omega arith in
    let most : 10 ^ suc k ≤ n = subst (λ (j : ℕ). 10 ^ j ≤ n) less (high (omega arith)) in
    let large : 10 ≤ n = omega (arith, most, pow-suc 10 k, one-le-pow k 10 (omega arith)) in
    let last : n % 10 < 10 = omega arith in
    let short : n / 10 < 10 ^ suc k = omega (arith, low, pow-suc 10 (suc k)) in
    let less' : suc k - 1 ≡ k = omega arith in
    let long : 10 ^ (suc k - 1) ≤ n / 10 = subst (λ (j : ℕ). 10 ^ j ≤ n / 10) (sym less') (omega (arith, most, pow-suc 10 k)) in
    ap (λ (ds : List ℕ). ds ++ (io.hex_digit_ascii (n % 10) ∷ [])) (same (suc k) f (n / 10) (omega arith) short (λ _. long) (omega arith))
    ∙ ap (λ (g : ℕ). digits f (n / 10) ++ (g ∷ [])) (glyph (n % 10) last)
    ∙ sym (longer f n large)

-- a number of 64 bits has at most twenty digits
twenty : (n k : ℕ) → n < 2 ^ 64 → (1 < k → 10 ^ (k - 1) ≤ n) → k ≤ 20
twenty n k h high = of (leb k 20) refl
  where
    of : (b : Bool) → leb k 20 ≡ b → k ≤ 20
    of true e = leb→le k 20 (subst T (sym e) tt)
    of false e =
        let many : 20 < k = nleb→lt k 20 (subst (λ (b : Bool). T (not b)) (sym e) tt) in
        let least : 10 ^ 20 ≤ 10 ^ (k - 1) = pow-le-pow_right {n = 10} (omega arith) {i = 20} {j = k - 1} (omega arith) in
        absurd (omega (arith, least, high (omega arith), h))

-- WHAT IT WRITES
pub written : (n k : ℕ) → n < 2 ^ 64 → io.IsDigitCount 10 1 n k → io.last_digits 10 k n ≡ decimal n
unfolding decimal
written n k h w = same k 20 n w.0 w.1 w.2 (twenty n k h w.2)

few : (j f n : ℕ) → n < 10 ^ suc j → length (digits f n) ≤ suc j
few j zero n h = omega arith
few zero (suc f) n h = omega (arith, ap length (alone f n (omega arith)))
few (suc j) (suc f) n h = of (ltb n 10) (few j f (n / 10) (omega (arith, h, pow-suc 10 (suc j))))
  where
    of : (b : Bool) → length (digits f (n / 10)) ≤ suc j → length (cond b (digit n) (digits f (n / 10) ++ digit (n % 10))) ≤ suc (suc j)
    of true shorter = omega arith
    of false shorter = omega (arith, length-append (digits f (n / 10)) (digit (n % 10)), shorter)

-- HOW MUCH ROOM, below a power of ten
pub decimal_room : (j n : ℕ) → n < 10 ^ suc j → length (decimal n) ≤ suc j
unfolding decimal
decimal_room j n h = few j 20 n h

-- after a space, of 64 bits
pub next_room : (n : ℕ) → n < 2 ^ 64 → length (next n) ≤ 21
next_room n h = omega (arith, decimal_room 19 n (omega (arith, h)))

pub pair_room : (a b : ℕ) → a < 1000 → b < 1000 → length (pair a b) ≤ 8
pair_room a b h k = omega (arith, length-append (decimal a) (bytes "-" ++ decimal b), decimal_room 2 a h, decimal_room 2 b k)
