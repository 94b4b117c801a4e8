-- The words that are computed are the longest runs without a blank.
use mathlib.Core.Path.{◌≡◌, refl, sym, ap, ◌∙◌, subst}
use mathlib.Core.Bool.{Bool, true, false, cond, not, true≢false}
use mathlib.Core.List.{List, [], ◌∷◌}
use Prim.Native.Nat.{ℕ, suc, ◌+◌, ◌-◌, ◌<◌, ◌≤◌}
use native.Mathlib.Decide.{dec_le}
use native.Mathlib.Omega.{arith}
use lib.ListN.{length, take, drop, get_or}
use borrow.Author.Tests.{not-true, not-false}
use Rattle.listing.proofs.Stores.{next}
use Rattle.words.specs.Words.{Word, word_at, is_blank, begins, longer, words_from, words}
use Rattle.words.specs.Runs.{Each, Run, Parted, blanks, run}

some_begin : (l : List ℕ) → begins l ≡ true → 0 < length l
some_begin [] h = absurd (true≢false (sym h))
some_begin (b ∷ l) h = omega arith

module _ (s : List ℕ) where
  -- ── One byte more in front ────────────────────────────────────────────────
  -- byte p is a blank, or is none
  abbrev Is : ℕ → Bool → Type 0
  Is p v = is_blank (get_or s p 0) ≡ v

  each_more : (p e : ℕ) (v : Bool) → Is p v → Each s (p + 1) e v → Each s p e v
  each_more p e v h f k l m = go (dec_le k p)
    where
      go : Dec (k ≤ p) → Is k v
      go (yes g) = let q : k ≡ p = omega arith in ap (λ (n : ℕ). is_blank (get_or s n 0)) q ∙ h
      go (no g) = f k (omega arith) m

  none_between : (p : ℕ) (v : Bool) → Each s p p v
  none_between p v k low high = absurd (omega arith)

  -- a blank parts nothing
  blank_front : (p : ℕ) (ws : List Word) → Is p true → Parted s (p + 1) ws → Parted s p ws
  blank_front p ws h (blanks f) = blanks (each_more p (length s) true h f)
  blank_front p ws h (run a e pa f g r) = run {p = p} a e (omega arith) (each_more p a true h f) g r

  taken : (p e : ℕ) → p < e → e ≤ length s → take (e - p) (drop p s) ≡ get_or s p 0 ∷ take (e - (p + 1)) (drop (p + 1) s)
  taken p e h l =
      let n : e - p ≡ suc (e - (p + 1)) = omega arith in
      rw (n, next s p 0 (omega arith))

  -- a run that starts at p itself
  run_here : (p e : ℕ) (ws : List Word) → Run s p e → Parted s e ws → Parted s p (word_at p (get_or s p 0 ∷ take (e - (p + 1)) (drop (p + 1) s)) ∷ ws)
  run_here p e ws g r =
      subst (λ (w : List ℕ). Parted s p (word_at p w ∷ ws)) (taken p e g.some g.within) (run {p = p} p e (omega arith) (none_between p true) g r)

  -- a byte that is no blank makes the run after it longer
  longer_front : (p : ℕ) (ws : List Word) → p + 1 < length s → Is p false → Is (p + 1) false → Parted s (p + 1) ws
      → Parted s p (longer p (get_or s p 0) ws)
  longer_front p ws l h h' (blanks f) = absurd (true≢false (sym (f (p + 1) (omega arith) l) ∙ h'))
  longer_front p ws l h h' (run {ws = vs} a e pa f g r) = go (dec_le a (p + 1))
    where
      go : Dec (a ≤ p + 1) → Parted s p (word_at p (get_or s p 0 ∷ take (e - a) (drop a s)) ∷ vs)
      go (no k) = absurd (true≢false (sym (f (p + 1) (omega arith) (omega arith)) ∙ h'))
      go (yes k) =
          let q : p + 1 ≡ a = omega arith in
          let whole : Run s p e = record {
            some = omega (arith, g.some);
            within = g.within;
            solid = each_more p e false h (subst (λ (n : ℕ). Each s n e false) (sym q) g.solid);
            longest = g.longest;
          } in
          subst (λ (n : ℕ). Parted s p (word_at p (get_or s p 0 ∷ take (e - n) (drop n s)) ∷ vs)) q (run_here p e vs whole r)

  -- or is one by itself
  alone_front : (p : ℕ) (ws : List Word) → p < length s → Is p false → (p + 1 < length s → Is (p + 1) true) → Parted s (p + 1) ws
      → Parted s p (word_at p (get_or s p 0 ∷ []) ∷ ws)
  alone_front p ws l h x r =
      let n : p + 1 - (p + 1) ≡ 0 = omega arith in
      let alone : Run s p (p + 1) = record {
        some = omega arith;
        within = omega arith;
        solid = each_more p (p + 1) false h (none_between (p + 1) false);
        longest = x;
      } in
      rw n at (run_here p (p + 1) ws alone r)

  -- ── The whole text ────────────────────────────────────────────────────────
  -- l is the text from p on
  parted : (l : List ℕ) (p : ℕ) → drop p s ≡ l → p + length l ≡ length s → Parted s p (words_from p l)
  parted [] p e len = blanks {p = p} (λ k low high. absurd (omega arith))
  parted (b ∷ l) p e len = step (is_blank b) (begins l) refl refl (parted l (p + 1) rest_is (omega arith))
    where
      here : p < length s
      here = omega arith

      rest_is : drop (p + 1) s ≡ l
      rest_is = let both = sym (next s p 0 here) ∙ e in cc

      byte_is : get_or s p 0 ≡ b
      byte_is = let both = sym (next s p 0 here) ∙ e in cc

      is : (v : Bool) → is_blank b ≡ v → Is p v
      is v h = ap is_blank byte_is ∙ h

      follows : (v : Bool) → begins l ≡ v → p + 1 < length s → not (is_blank (get_or s (p + 1) 0)) ≡ v
      follows v h m = sym (ap begins (next s (p + 1) 0 m)) ∙ ap begins rest_is ∙ h

      step : (x y : Bool) → is_blank b ≡ x → begins l ≡ y → Parted s (p + 1) (words_from (p + 1) l)
          → Parted s p (cond x (words_from (p + 1) l) (cond y (longer p b (words_from (p + 1) l)) (word_at p (b ∷ []) ∷ words_from (p + 1) l)))
      step true y hx hy r = blank_front p _ (is true hx) r
      step false true hx hy r =
          let more : p + 1 < length s = omega (arith, some_begin l hy) in
          let joined = longer_front p _ more (is false hx) (not-true _ (follows true hy more)) r in
          subst (λ (c : ℕ). Parted s p (longer p c (words_from (p + 1) l))) byte_is joined
      step false false hx hy r =
          let alone = alone_front p _ here (is false hx) (λ m. not-false _ (follows false hy m)) r in
          subst (λ (c : ℕ). Parted s p (word_at p (c ∷ []) ∷ words_from (p + 1) l)) byte_is alone

-- THE WORDS OF A TEXT ARE ITS LONGEST RUNS
pub words_parted : (s : List ℕ) → Parted s 0 (words s)
unfolding words
words_parted s = parted s s 0 refl (omega arith)
