-- The next node of a row, from the least bit of one of its words.
use mathlib.Core.Path.{◌≡◌, sym, ap, ◌∙◌}
use mathlib.Core.List.{List}
use Prim.Native.Nat.{ℕ, ◌+◌, ◌-◌, ◌≤◌, ◌<◌, min}
use native.Mathlib.Omega.{arith}
use native.Mathlib.Decide.{dec_lt}
use Rattle.rows.specs.Inner.Rows.{IsSet, bit, low_word, high_word, Has}
use Rattle.rows.specs.Inner.Least.{Least}
use Rattle.rows.proofs.Places.{at_low, at_high}

module _ (w : List ℕ) (a b n : ℕ) (hb : b < n) (hn : n ≤ 128) where
  pub next_low : (r : ℕ) → Least (IsSet (low_word w a)) b 64 r → r < 64 → Least (Has w a) b n (min r n)
  next_low r o h =
      record {
        low = omega arith;
        from = omega (arith, o.from);
        here = λ l. (let e : min r n ≡ r = omega arith in rw e (at_low w a r h ∙ o.here h));
        none = λ z g l q. o.none z g (omega arith) (sym (at_low w a z (omega arith)) ∙ q);
      }

  next_high : (c r : ℕ) → b ≤ c + 64 → ((z : ℕ) → b ≤ z → z < c + 64 → Has w a z → ⊥)
      → Least (IsSet (high_word w a)) c 64 r → Least (Has w a) b n (min (r + 64) n)
  next_high c r g none o =
      record {
        low = omega arith;
        from = omega (arith, o.from);
        here = here;
        none = λ z k l q. before z k l q (dec_lt z (c + 64));
      }
    where
      here : min (r + 64) n < n → Has w a (min (r + 64) n)
      here l =
          let e : min (r + 64) n ≡ r + 64 = omega arith in
          let f : r + 64 - 64 ≡ r = omega arith in
          rw e (at_high w a (r + 64) (omega arith) (omega arith) ∙ ap (bit (high_word w a)) f ∙ o.here (omega arith))

      before : (z : ℕ) → b ≤ z → z < min (r + 64) n → Has w a z → Dec (z < c + 64) → ⊥
      before z k l q (yes d) = none z k d q
      before z k l q (no d) = o.none (z - 64) (omega arith) (omega arith) (sym (at_high w a z (omega arith) (omega arith)) ∙ q)

  pub next_over : (i r : ℕ) → Least (IsSet (low_word w a)) b 64 i → 64 ≤ i → b < 64 → Least (IsSet (high_word w a)) 0 64 r → Least (Has w a) b n
      (min (r + 64) n)
  next_over i r o h l = next_high 0 r (omega arith) (λ z k g q. o.none z k (omega arith) (sym (at_low w a z (omega arith)) ∙ q))

  pub next_above : (r : ℕ) → 64 ≤ b → Least (IsSet (high_word w a)) (b - 64) 64 r → Least (Has w a) b n (min (r + 64) n)
  next_above r h = next_high (b - 64) r (omega arith) (λ z k g q. omega arith)
