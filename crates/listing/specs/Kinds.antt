-- Versions, and the kinds of a node.
use Rattle.std.specs.Prelude.{Bool, cond, ◌||◌, ℕ, eqb}

-- "a 16-bit version (1 or 2)"
abbrev pub is_version : ℕ → Bool
is_version v = eqb v 1 || eqb v 2

-- "Kinds: 0 plain, 1 read, 2 write, 3 read-modify-write that always completes (RMW), 4 full fence"
abbrev pub PLAIN : ℕ
PLAIN = 0

abbrev pub READ : ℕ
READ = 1

abbrev pub WRITE : ℕ
WRITE = 2

abbrev pub RMW : ℕ
RMW = 3

abbrev pub FENCE : ℕ
FENCE = 4

-- "Version 2 adds kind 5 acquire read, 6 release write, 7 load fence, 8 store fence, 9 acquirePC read"
abbrev pub ACQUIRE : ℕ
ACQUIRE = 5

abbrev pub RELEASE : ℕ
RELEASE = 6

abbrev pub LOAD_FENCE : ℕ
LOAD_FENCE = 7

abbrev pub STORE_FENCE : ℕ
STORE_FENCE = 8

abbrev pub ACQUIRE_PC : ℕ
ACQUIRE_PC = 9

-- how many kinds there are
abbrev pub KINDS : ℕ
KINDS = 10

-- how many of them, from 0 on, a version admits: 0 to 4 are version 1's
abbrev pub kinds_of : ℕ → ℕ
kinds_of version = cond (eqb version 1) 5 KINDS

-- "On kinds 0, 4, 7 and 8 the location is 0 and means nothing"
abbrev pub has_no_location : ℕ → Bool
has_no_location k = eqb k PLAIN || (eqb k FENCE || (eqb k LOAD_FENCE || eqb k STORE_FENCE))
