-- What a word says that says nothing by itself and no access: a location, or nothing that a text has.
use mathlib.Core.Path.{◌≡◌, refl, ap}
use mathlib.Core.Bool.{Bool, true, false, cond}
use mathlib.Core.List.{List}
use Prim.Native.Nat.{ℕ}
use Rattle.std.specs.Prelude.{None, Some}
use Rattle.words.specs.Words.{Number, Other, value_from, number, meaning}
use Rattle.words.specs.declared.Word.TheVariants as said
use Rattle.words.specs.Inner.Looking.{is_end}
use Rattle.words.specs.Inner.Telling.{location_of, SaysWord}
use Rattle.words.proofs.Digits.{small_number}

module _ (w : List ℕ) (plain : meaning w ≡ cond (number w) (Number (value_from 0 w)) Other) where
  pub says_location : {n : ℕ} → Some n ≡ location_of w → SaysWord w (said.Number n)
  unfolding location_of
  says_location {n} e = go (number w) refl e
    where
      go : (b : Bool) → number w ≡ b → Some n ≡ cond b (Some (value_from 0 w)) None → SaysWord w (said.Number n)
      go true h q =
          let same : n ≡ value_from 0 w = cc in
          record {
            token = rw (plain, h, same);
            some = λ z. let no = ap is_end z in absurd cc;
            small = λ m z. let its : n ≡ m = cc in rw (← its, same) (small_number w h);
          }
      go false h q = absurd cc

  pub says_other : None ≡ location_of w → SaysWord w said.Other
  unfolding location_of
  says_other e = go (number w) refl e
    where
      go : (b : Bool) → number w ≡ b → None ≡ cond b (Some (value_from 0 w)) None → SaysWord w said.Other
      go true h q = absurd cc
      go false h q = record { token = rw (plain, h); some = λ z. absurd cc; small = λ m z. absurd cc }

-- what `words::tell::meaning` stands on, where no word has one spelling
pub ruleset telling = (says_location, says_other)
