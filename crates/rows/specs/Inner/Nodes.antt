-- The nodes of a row, given one by one.
use Rattle.std.specs.Prelude.{◌≡◌, List, ℕ, ◌+◌, ◌≤◌, Option, Some, None}
use Rattle.rows.specs.Inner.Rows.{Has}
use Rattle.rows.specs.Inner.Least.{LeastIfAny}

-- the nodes of row a of w from a place on and below n: those that are still to come
pub record Coming : Type 0 where
  pub w : List ℕ
  pub a : ℕ
  pub place : ℕ
  pub n : ℕ

abbrev pub coming : List ℕ → ℕ → ℕ → ℕ → Coming
coming w a b n = record { w = w; a = a; place = b; n = n }

-- the place after an answer: past the node that it names, or past all
abbrev pub past : ℕ → Option ℕ → ℕ
past n (Some r) = r + 1
past n None = n

-- the answer is the least node that is to come, if there is one, and those after it are still to come
pub record Gives (s : Coming) (r : Option ℕ) (t : Coming) : Type 0 where
  pub few : s.n ≤ 128
  pub least : LeastIfAny (Has s.w s.a) s.place s.n r
  pub rest : t ≡ coming s.w s.a (past s.n r) s.n
