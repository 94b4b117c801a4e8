-- Relations on at most 128 nodes as rows of bits, two 64-bit words a row. A set of nodes is one row.
use Rattle.std.specs.Prelude.{◌≡◌, Bool, true, false, List, ℕ, ◌+◌, ◌*◌, ◌/◌, ◌%◌, ◌^◌, ◌<◌, get_or, set}

-- what an answer of yes or no says of a statement
abbrev pub Tells : Bool → Type 0 → Type 0
Tells true A = A
Tells false A = A → ⊥

-- what a yes says of a statement; a no says nothing
abbrev pub Vouches : Bool → Type 0 → Type 0
Vouches true A = A
Vouches false A = Unit {0}

-- bit i of a word
unfoldable pub bit : ℕ → ℕ → ℕ
bit x i = x / 2 ^ i % 2

-- bit i is set
abbrev pub IsSet : ℕ → ℕ → Type 0
IsSet x i = bit x i ≡ 1

-- the two words of row a
abbrev pub low_word : List ℕ → ℕ → ℕ
low_word w a = get_or w (2 * a) 0

abbrev pub high_word : List ℕ → ℕ → ℕ
high_word w a = get_or w (2 * a + 1) 0

-- the rows with lo and hi as the words of row a
abbrev pub with_words : List ℕ → ℕ → ℕ → ℕ → List ℕ
with_words w a lo hi = set (set w (2 * a) lo) (2 * a + 1) hi

-- the bit of row a at b; it means nothing for b from 128 on
unfoldable pub at : List ℕ → ℕ → ℕ → ℕ
at w a b = bit (get_or w (2 * a + b / 64) 0) (b % 64)

-- b stands in row a
abbrev pub Has : List ℕ → ℕ → ℕ → Type 0
Has w a b = at w a b ≡ 1

-- the rows w keep the relation A among the first n nodes, and nothing else
pub record Holds (w : List ℕ) (n : ℕ) (A : ℕ → ℕ → Type 0) : Type 0 where
  pub sound : (a b : ℕ) → b < 128 → Has w a b → (a < n) × (b < n) × A a b
  pub whole : (a b : ℕ) → a < n → b < n → A a b → Has w a b

-- the one row s keeps the nodes below n that satisfy P, and nothing else
pub record Members (s : List ℕ) (n : ℕ) (P : ℕ → Type 0) : Type 0 where
  pub sound : (b : ℕ) → b < 128 → Has s 0 b → (b < n) × P b
  pub whole : (b : ℕ) → b < n → P b → Has s 0 b

-- no bit stands outside the first n nodes
abbrev pub Low : ℕ → List ℕ → Type 0
Low n w = (a b : ℕ) → b < 128 → Has w a b → (a < n) × (b < n)

-- the relation that the rows keep, of nodes
abbrev pub Link : ℕ → List ℕ → ℕ → ℕ → Type 0
Link n w a b = (a < n) × (b < n) × Has w a b

-- no row has anything
abbrev pub Blank : List ℕ → Type 0
Blank w = (a b : ℕ) → b < 128 → Has w a b → ⊥

-- row a of w and row z of s have a node in common
abbrev pub Meet : List ℕ → ℕ → List ℕ → ℕ → Type 0
Meet w a s z = (b : ℕ) × (b < 128) × Has w a b × Has s z b
