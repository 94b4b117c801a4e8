-- An answer in the rules' numbers: what every promise speaks of, and what the exported services hand out.
use Rattle.std.specs.Prelude.{ℕ, List, ◌++◌, length, drop}

-- kind 0: done, or ROBUST; 1: OPEN; 2: REFUSED. The other three are that kind's values
pub record Answer : Type 0 where
  pub kind : ℕ
  pub first : ℕ
  pub second : ℕ
  pub count : ℕ

-- done, with what it found
abbrev pub done : ℕ → ℕ → ℕ → Answer
done a b n = record { kind = 0; first = a; second = b; count = n }

-- OPEN, with the first failing pair and the number of pairs in its chain
abbrev pub open_at : ℕ → ℕ → ℕ → Answer
open_at a b n = record { kind = 1; first = a; second = b; count = n }

-- REFUSED, with number and place
abbrev pub refusal : ℕ → ℕ → Answer
refusal k p = record { kind = 2; first = k; second = p; count = 0 }

-- what a lent buffer holds once `out` is written at its start: "Bytes beyond these ends keep their values"
abbrev pub filled : List ℕ → List ℕ → List ℕ
filled out old = out ++ drop (length out) old
