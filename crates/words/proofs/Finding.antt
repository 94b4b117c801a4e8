-- The next word of a text: blanks are passed, and the bytes up to the next blank are one word.
use mathlib.Core.Path.{◌≡◌, refl, ap, ◌∙◌, subst}
use mathlib.Core.Bool.{Bool, true, false, not, true≢false}
use mathlib.Core.List.{List, [], ◌∷◌}
use Prim.Native.Nat.{ℕ, zero, suc, ◌+◌, ◌-◌, ◌<◌, ◌≤◌}
use native.Mathlib.Decide.{dec_le}
use native.Mathlib.Omega.{arith}
use lib.ListN.{length, take, drop, get_or, length-drop, drop_of_length-le}
use lib.Seq.{drop-drop, get_or-drop}
use Rattle.std.specs.Option.{MatchOption, unwrap_or}
use Rattle.std.specs.Iterator.{YieldsThen}
use Rattle.std.specs.declared.ops.Range.{Range}
use Rattle.std.proofs.iter.Yields.{nat_range_steps}
use Rattle.std.specs.Prelude.{Option, None, Some}
use Rattle.listing.proofs.Stores.{next}
use Rattle.words.specs.declared.Word.{Word as Said}
use Rattle.words.specs.declared.Word.TheVariants.{End}
use Rattle.words.specs.Words.{word_at, is_blank, begins, longer, words_from, meaning}
use Rattle.words.specs.Inner.Looking.{mark, marks, unread, is_end, ahead, Ahead, Until}
use Rattle.words.specs.Inner.Telling.{SaysWord}

-- ── What `find` finds ────────────────────────────────────────────────────────
-- a range that gives nothing more has come to its end
spends : (xs : List ℕ) (s u : Range ℕ) → YieldsThen nat_range_steps s xs None u → s.start ≤ s.end → u.start ≡ s.end
spends [] s u (t, e, (same, (none, stays))) h =
    let start = ap (λ (r : Range ℕ). r.start) e in
    let end = ap (λ (r : Range ℕ). r.end) e in
    omega (arith, stays, start, end, none, h)
spends (x ∷ xs) s u (t, (j, (same, (some, is, up)), rest), none) h = spends xs j u (t, rest, none) (omega arith) ∙ same

pub spent : (xs : List ℕ) (s u : Range ℕ) {r : Option ℕ} → YieldsThen nat_range_steps s xs r u → r ≡ None → s.start ≤ s.end → u.start ≡ s.end
spent xs s u ran none = spends xs s u (subst (λ (r : Option ℕ). YieldsThen nat_range_steps s xs r u) none ran)

-- byte k is a blank, or is none, as v says
abbrev pub BlankAt : List ℕ → Bool → ℕ → Type 0
BlankAt s v k = is_blank (get_or s k 0) ≡ v

pub until : (s : List ℕ) (at : ℕ) (v : Bool) → at ≤ length s → {e : ℕ} (r : Option ℕ) → (r ≡ None → e ≡ length s)
    → MatchOption r ((k : ℕ) → at ≤ k → k < length s → BlankAt s (not v) k)
    (λ i. (at ≤ i) × (i < length s) × BlankAt s v i × ((k : ℕ) → at ≤ k → k < i → BlankAt s (not v) k))
    → Until s at v (unwrap_or r e)
until s at v h {e} None end none =
    rw (end refl) (record { later = h; within = omega arith; passed = none; stops = λ z. absurd (omega arith) })
until s at v h (Some i) end (low, high, here, before) = record { later = low; within = omega arith; passed = before; stops = λ _. here }

-- ── Blanks ──────────────────────────────────────────────────────────────────
pub past_blank : (s : List ℕ) (i : ℕ) → i < length s → is_blank (get_or s i 0) ≡ true → unread s i ≡ unread s (i + 1)
unfolding unread
past_blank s i h b = rw (next s i 0 h, b)

-- the end of a text holds no word
no_word : (s : List ℕ) (i : ℕ) → length s ≤ i → unread s i ≡ []
unfolding unread
no_word s i h = rw (drop_of_length-le s {i = i} h)

module _ (s : List ℕ) where
  passed : (n i r : ℕ) → i + n ≡ r → r ≤ length s → ((k : ℕ) → i ≤ k → k < r → is_blank (get_or s k 0) ≡ true) → unread s i ≡ unread s r
  passed zero i r e h blank = ap (unread s) (omega arith)
  passed (suc n) i r e h blank =
      past_blank s i (omega arith) (blank i (omega arith) (omega arith))
      ∙ passed n (i + 1) r (omega arith) h (λ k low high. blank k (omega arith) high)

  -- blanks are no word
  skipped : {at r : ℕ} → Until s at false r → unread s at ≡ unread s r
  skipped {at} {r} u = let low = u.later in passed (r - at) at r (omega arith) u.within u.passed

-- ── A word ──────────────────────────────────────────────────────────────────
-- a byte that is no blank makes the word right after it longer
joins : (p b c : ℕ) (t : List ℕ) → is_blank b ≡ false → is_blank c ≡ false → words_from p (b ∷ c ∷ t) ≡ longer p b (words_from (p + 1) (c ∷ t))
joins p b c t hb hc = rw (hb, hc)

-- n bytes that are no blanks are one word where no more follow
pub one_word : (n p : ℕ) (l : List ℕ) → 0 < n → n ≤ length l → ((k : ℕ) → k < n → is_blank (get_or l k 0) ≡ false) → begins (drop n l) ≡ false
    → words_from p l ≡ word_at p (take n l) ∷ words_from (p + n) (drop n l)
one_word zero p l some fits solid stops = absurd (omega arith)
one_word (suc n) p [] some fits solid stops = absurd (omega arith)
one_word (suc zero) p (b ∷ l) some fits solid stops = rw (solid 0 (omega arith), stops)
one_word (suc (suc n)) p (b ∷ []) some fits solid stops = absurd (omega arith)
one_word (suc (suc n)) p (b ∷ c ∷ l) some fits solid stops =
    joins p b c l (solid 0 (omega arith)) (solid 1 (omega arith))
    ∙ ap (longer p b) (one_word (suc n) (p + 1) (c ∷ l) (omega arith) (omega arith) (λ k h. solid (suc k) (omega arith)) stops)
    ∙ ap (λ (m : ℕ). word_at p (b ∷ c ∷ take n l) ∷ words_from m (drop n l)) (omega arith)

module _ (s : List ℕ) (a e : ℕ) (ends : Until s a true e) (some : a < e) where
  stopped : begins (drop e s) ≡ false
  stopped = go (dec_le (length s) e)
    where
      go : Dec (length s ≤ e) → begins (drop e s) ≡ false
      go (yes h) = rw (drop_of_length-le s {i = e} h)
      go (no h) = let l : e < length s = omega arith in rw (next s e 0 l, ends.stops l)

  found : unread s a ≡ mark a (meaning (take (e - a) (drop a s))) ∷ unread s e
  unfolding unread
  found =
      let within : e ≤ length s = ends.within in
      let up : a + (e - a) ≡ e = omega arith in
      let rest : drop (e - a) (drop a s) ≡ drop e s = drop-drop (e - a) a s ∙ ap (λ (k : ℕ). drop k s) up in
      ap marks
      (one_word (e - a) a (drop a s) (omega arith) (simp length-drop (omega arith))
      (λ k h. ap is_blank (get_or-drop a s k 0) ∙ ends.passed (a + k) (omega arith) (omega arith))
      (ap begins rest ∙ stopped))
      ∙ rw (rest, up)

-- the first byte is one of the word's
from_first : (s : List ℕ) (a e : ℕ) → BlankAt s false a → Until s (a + 1) true e → Until s a true e
from_first s a e here u =
    let more : a + 1 ≤ e = u.later in
    record { later = omega arith; within = u.within; passed = λ k low high. go k (dec_le (a + 1) k) low high; stops = u.stops }
  where
    go : (k : ℕ) → Dec (a + 1 ≤ k) → a ≤ k → k < e → BlankAt s false k
    go k (yes more) low high = u.passed k more high
    go k (no h) low high = let same : a ≡ k = omega arith in subst (BlankAt s false) same here

-- ── The next word ───────────────────────────────────────────────────────────
-- none, where the blanks end with the text
pub none_found : (s : List ℕ) (at r : ℕ) → Until s at false r → length s ≤ r → Ahead s at (record { word = End; start = r; end = r })
unfolding ahead
none_found s at r u h =
    let within : r ≤ length s = u.within in
    record {
      same = skipped s u ∙ no_word s r h;
      later = u.later;
      found = record {
        ordered = omega arith;
        within = within;
        some = λ z. absurd (z refl);
        none = λ _. omega arith;
        small = λ n z. absurd (true≢false (ap is_end z));
      };
    }

-- a word that says something is no end
pub some_word : (w : Said) → (w ≡ End → ⊥) → is_end w ≡ false
some_word w = elim w as (λ k. (k ≡ End → ⊥) → is_end k ≡ false) [
  | End ↦ λ h. absurd (h refl)
  | _ ↦ λ h. refl
]

-- THE WORD THAT BEGINS THERE: its first byte is no blank, so its end is looked for from the next on
pub one_found : (s : List ℕ) (at a e : ℕ) (w : Said) → Until s at false a → a < length s → Until s (a + 1) true e
    → SaysWord (take (e - a) (drop a s)) w → Ahead s at (record { word = w; start = a; end = e })
unfolding ahead
one_found s at a e w u h ends told =
    let some : a < e = let m : a + 1 ≤ e = ends.later in omega arith in
    record {
      same = skipped s u ∙ found s a e (from_first s a e (u.stops h) ends) some ∙ rw (some_word w told.some, told.token);
      later = u.later;
      found = record {
        ordered = omega arith;
        within = ends.within;
        some = λ _. some;
        none = λ z. absurd (told.some z);
        small = told.small;
      };
    }
