-- Tests that are computed: what they say, as truth values and as statements, and laws of those that are put together.
use mathlib.Core.Path.{◌≡◌, refl, sym, ap, subst, ◌∙◌}
use mathlib.Core.Logic.{◌⊎◌, inl, inr}
use mathlib.Core.Bool.{Bool, true, false, not, ◌&&◌, ◌||◌, true≢false, false≢true}
use Prim.Native.Nat.{ℕ}
use lib.Dec.{T, eqb, eqb_refl}

-- ── Truth values ────────────────────────────────────────────────────────────
-- a test holds or does not
pub bool? : (b : Bool) → (b ≡ true) ⊎ (b ≡ false)
bool? true = inl refl
bool? false = inr refl

pub or_neither : (a b : Bool) → (a || b) ≡ false → (a ≡ false) × (b ≡ false)
or_neither true b e = absurd (true≢false e)
or_neither false b e = (refl, e)

pub neither_or : (a b : Bool) → a ≡ false → b ≡ false → (a || b) ≡ false
neither_or true b e f = e
neither_or false b e f = f

-- where the first is not, the rest decides
pub or_rest : (a b : Bool) → a ≡ false → (a || b) ≡ b
or_rest true b e = absurd (subst T e tt)
or_rest false b e = refl

pub and_lacks : (a b : Bool) → (a && b) ≡ false → (a ≡ false) ⊎ (b ≡ false)
and_lacks true b e = inr e
and_lacks false b e = inl refl

pub lacks_and : (a b : Bool) → (a ≡ false) ⊎ (b ≡ false) → (a && b) ≡ false
lacks_and true b (inl e) = absurd (true≢false e)
lacks_and true b (inr e) = e
lacks_and false b e = refl

pub and_both : (a b : Bool) → (a && b) ≡ true → (a ≡ true) × (b ≡ true)
and_both true b e = (refl, e)
and_both false b e = absurd (false≢true e)

-- ── Statements ──────────────────────────────────────────────────────────────
-- what a test is by what it is not
pub not_is : (r b : Bool) → not r ≡ b → r ≡ not b
not_is true b e = ap not e
not_is false b e = ap not e

pub T? : (b : Bool) → Dec (T b)
T? true = yes tt
T? false = no (λ t. t)

pub T_true : (b : Bool) → T b → b ≡ true
T_true true t = refl
T_true false t = absurd t

pub eq→eqb : (m n : ℕ) → m ≡ n → T (eqb m n)
eq→eqb m n e = subst (λ (k : ℕ). T (eqb m k)) e (eqb_refl m)

pub both : (a b : Bool) → T a → T b → T (a && b)
both true b s t = t
both false b s t = s

pub both→ : (a b : Bool) → T (a && b) → T a × T b
both→ true b t = (tt, t)
both→ false b t = absurd t

pub one : (a b : Bool) → T a ⊎ T b → T (a || b)
one true b t = tt
one false b (inl t) = absurd t
one false b (inr t) = t

-- what follows from either
pub either : {X : Type 0} (a b : Bool) → (T a → X) → (T b → X) → T (a || b) → X
either true b f g t = f t
either false b f g t = g t

pub one→ : (a b : Bool) → T (a || b) → T a ⊎ T b
one→ true b t = inl tt
one→ false b t = inr t

-- ── What an answer r says of the test b that it equals ──────────────────────
pub yes_holds : {r b : Bool} → r ≡ true → r ≡ b → T b
yes_holds p e = subst T (sym p ∙ e) tt

pub no_fails : {r b : Bool} → r ≡ false → r ≡ b → T b → ⊥
no_fails p e t = subst T (sym e ∙ p) t

-- the same where the code asks for the opposite
pub not_holds : {r b : Bool} → not r ≡ false → r ≡ b → T b
not_holds {r} {b} p e = of b (ap not (sym e) ∙ p)
  where
    of : (x : Bool) → not x ≡ false → T x
    of true q = tt
    of false q = subst T q tt
