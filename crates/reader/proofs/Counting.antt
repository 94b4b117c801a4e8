-- How many numbers below n pass a test: a measure that falls where one fewer does.
use mathlib.Core.Path.{◌≡◌, subst}
use mathlib.Core.Bool.{Bool, true, false, cond}
use Prim.Native.Nat.{ℕ, zero, suc, ◌≤◌, ◌<◌}
use native.Mathlib.Omega.{arith}
use native.Mathlib.Decide.{ℕ_discrete}
use lib.Dec.{T}

abbrev pub count : (ℕ → Bool) → ℕ → ℕ
count p zero = 0
count p (suc n) = cond (p n) (suc (count p n)) (count p n)

-- where no number passes that did not, no more pass
more : (b c : Bool) (m k : ℕ) → (T c → T b) → m ≤ k → cond c (suc m) m ≤ cond b (suc k) k
more true true m k f h = omega arith
more true false m k f h = omega arith
more false true m k f h = absurd (f tt)
more false false m k f h = h

pub count_most : (p q : ℕ → Bool) (n : ℕ) → ((x : ℕ) → x < n → T (q x) → T (p x)) → count q n ≤ count p n
count_most p q zero f = omega arith
count_most p q (suc n) f = more (p n) (q n) (count q n) (count p n) (f n (omega arith)) (count_most p q n (λ x h. f x (omega arith)))

fewer : (b c : Bool) (m k : ℕ) → T b → (T c → ⊥) → m ≤ k → cond c (suc m) m < cond b (suc k) k
fewer true true m k t f h = absurd (f tt)
fewer true false m k t f h = omega arith
fewer false c m k t f h = absurd t

less : (b c : Bool) (m k : ℕ) → (T c → T b) → m < k → cond c (suc m) m < cond b (suc k) k
less true true m k f h = omega arith
less true false m k f h = omega arith
less false true m k f h = absurd (f tt)
less false false m k f h = h

-- AND FEWER WHERE ONE NO LONGER DOES
pub count_less : (p q : ℕ → Bool) (n a : ℕ) → a < n → ((x : ℕ) → x < n → T (q x) → T (p x)) → T (p a) → (T (q a) → ⊥) → count q n < count p n
count_less p q zero a h f t g = absurd (omega arith)
count_less p q (suc n) a h f t g = go (ℕ_discrete a n) (λ l. count_less p q n a l (λ x k. f x (omega arith)) t g)
  where
    go : Dec (a ≡ n) → (a < n → count q n < count p n) → count q (suc n) < count p (suc n)
    go (yes e) rest =
        fewer (p n) (q n) (count q n) (count p n) (subst (λ (x : ℕ). T (p x)) e t) (subst (λ (x : ℕ). T (q x) → ⊥) e g)
        (count_most p q n (λ x k. f x (omega arith)))
    go (no m) rest = less (p n) (q n) (count q n) (count p n) (f n (omega arith)) (rest (omega arith))
