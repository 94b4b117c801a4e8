-- The line of the program that judges a patch drawn up by anyone, of the whole of its input.
use Rattle.std.specs.Prelude.{◌≡◌, Bool, true, false, cond, List, [], ◌∷◌, ◌++◌, ℕ, zero, suc, ◌+◌, take, drop, eqb, ltb}
use Rattle.listing.specs.Limits.{NODES}
use Rattle.listing.specs.Node.{Listing}
use Rattle.listing.specs.Bytes.{byte, count_n, record_at, nodes_of}
use Rattle.listing.specs.Rules.{Rule, Refusal, passed, refused, first_of}
use Rattle.order.specs.Verdict.{Verdict, robust, opened, Judged}
use Rattle.order.specs.Patched.{patched}
use Rattle.fencing.specs.Marks.{marks_of}
use Rattle.verdict.specs.Judging.{question_rules}
use Rattle.patch.specs.Patching.{map_byte, patch_rules}
use Rattle.listing.specs.Ascii.{bytes}
use Rattle.say.specs.Lines.{refusal_line, verdict_line, Lined}

-- ── The nodes named, as a map ───────────────────────────────────────────────
-- whether node i is among them; "a node may be named twice"
abbrev pub named : List ℕ → ℕ → Bool
named [] i = false
named (k ∷ ks) i = cond (eqb k i) true (named ks i)

-- a map has N bytes, but "a node that the listing does not have makes the map longer than N, which 13 refuses"
abbrev pub map_length : ℕ → List ℕ → ℕ
map_length n [] = n
map_length n (k ∷ ks) = map_length (cond (ltb k n) n (suc k)) ks

-- "1 for a fence after it, 0 for none", for as many nodes from i on
abbrev pub drawn : List ℕ → ℕ → ℕ → List ℕ
drawn ks i zero = []
drawn ks i (suc n) = map_byte (named ks i) ∷ drawn ks (suc i) n

-- "The patch is a fence after each node named", as the map of the listing s
abbrev pub map_of : List ℕ → List ℕ → List ℕ
map_of s ks = drawn ks 0 (map_length (count_n s) ks)

-- ── The line ────────────────────────────────────────────────────────────────
-- "ACCEPTED if the patched listing is ROBUST, and the judge program's line of it if it is OPEN"
abbrev pub accepted_line : Verdict → List ℕ
accepted_line robust = bytes "ACCEPTED\n"
accepted_line (opened p rest) = verdict_line (opened p rest)

-- of the question q and the patched nodes L. The program lends 258 bytes itself, so 16 is never met
abbrev pub PatchedLine : Refusal → ℕ → Listing → List ℕ → Type 0
PatchedLine passed q L line = (v : Verdict) × Judged q L v × (line ≡ accepted_line v)
PatchedLine (refused k p) q L line = line ≡ refusal_line k p

-- "refused by 1, then 2 to 12, then 18, then 13 to 15"
abbrev pub accept_rules : ℕ → List ℕ → List ℕ → List Rule
accept_rules q s map = question_rules q ++ patch_rules s map

-- of the question, the listing's bytes, and the nodes named
abbrev pub NamedLine : ℕ → List ℕ → List ℕ → List ℕ → Type 0
NamedLine q s ks line = PatchedLine (first_of (accept_rules q s (map_of s ks))) q (patched (nodes_of s) (marks_of (map_of s ks))) line

-- "one byte for the question, one for how many nodes are named, a byte for each, then the listing; there too empty input is refusal 1"
abbrev pub AcceptLine : List ℕ → List ℕ → Type 0
AcceptLine [] line = line ≡ refusal_line 1 0
AcceptLine (q ∷ rest) line = NamedLine q (drop (byte rest 0) (drop 1 rest)) (take (byte rest 0) (drop 1 rest)) line

-- THE PROMISE, of the whole input, the buffer before and after, and the answer
abbrev pub AcceptLinePromise : List ℕ → List ℕ → List ℕ → ℕ → Type 0
AcceptLinePromise input old new r = (line : List ℕ) × AcceptLine input line × Lined line old new r

-- as much of an input as decides its line: the question, the count, as many nodes as a byte counts, the longest listing, and one byte more
abbrev pub INPUT : ℕ
INPUT = 1 + 1 + 255 + record_at NODES + 1
