-- Courses: a hop by one relation and a pair by another, over and over, to a goal; and the least of the shortest.
use Rattle.std.specs.Prelude.{◌≡◌, List, [], ◌∷◌, ℕ, ◌*◌, ◌≤◌, ◌<◌, length, take, drop}
use Rattle.rows.specs.Inner.Rows.{Low, Link}
use Rattle.chains.specs.Inner.Far.{Goal}

-- l lists, two numbers a pair, the pairs of a course from x to a goal: hops by M, pairs by W
pub data Course (M W : ℕ → ℕ → Type 0) (T : ℕ → Type 0) : ℕ → List ℕ → Type 0 where
  end : {x : ℕ} → T x → Course M W T x []
  go : {x c y : ℕ} {l : List ℕ} → M x c → W c y → Course M W T y l → Course M W T x (c ∷ y ∷ l)

-- l is at most k, compared number by number
pub data Lex : List ℕ → List ℕ → Type 0 where
  nil : Lex [] []
  less : {a b : ℕ} {l k : List ℕ} → a < b → Lex (a ∷ l) (b ∷ k)
  same : {a : ℕ} {l k : List ℕ} → Lex l k → Lex (a ∷ l) (a ∷ k)

-- l is the least of the shortest courses
pub record BestCourse (M W : ℕ → ℕ → Type 0) (T : ℕ → Type 0) (x : ℕ) (l : List ℕ) : Type 0 where
  pub course : Course M W T x l
  pub short : (k : List ℕ) → Course M W T x k → length l ≤ length k
  pub least : (k : List ℕ) → Course M W T x k → length k ≡ length l → Lex l k

-- what a search for a course stands on: relations among the first n nodes, a buffer o that holds n pairs, and that there is a course
pub record Sought (n : ℕ) (m w t o : List ℕ) (x : ℕ) : Type 0 where
  pub few : n ≤ 128
  pub low : x < n
  pub hops : Low n m
  pub pairs : Low n w
  pub fits : 2 * n ≤ length o
  pub some : (l : List ℕ) × Course (Link n m) (Link n w) (Goal n t) x l

-- the answer k: the number of pairs of the best course, which stand at the front of p, the buffer after; the rest of the buffer is as it was
pub record ShownCourse (n : ℕ) (m w t o p : List ℕ) (x k : ℕ) : Type 0 where
  pub best : BestCourse (Link n m) (Link n w) (Goal n t) x (take (2 * k) p)
  pub count : length (take (2 * k) p) ≡ 2 * k
  pub bound : k < n
  pub beyond : drop (2 * k) p ≡ drop (2 * k) o
  pub long : length p ≡ length o
