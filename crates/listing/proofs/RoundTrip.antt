-- Bytes to nodes and back: reading what was written, and writing what was read.
use mathlib.Core.Path.{◌≡◌, refl, sym, ap, ap₂, ◌∙◌}
use mathlib.Core.List.{List, [], ◌∷◌, ◌++◌, append_assoc}
use Prim.Native.Nat.{ℕ, zero, suc, ◌+◌, ◌*◌, ◌/◌, ◌%◌, ◌≤◌, ◌<◌}
use native.Mathlib.Nat.{add_assoc, add-zero}
use native.Mathlib.Numerals.{towards_suc}
use native.Mathlib.Omega.{arith}
use lib.ListN.{length, drop, drop_of_length-le}
use lib.Seq.{get_or-append-add, drop-cons}
use Rattle.listing.specs.Limits.{HEADING, RECORD}
use Rattle.listing.specs.Node.{Node, Listing}
use Rattle.listing.specs.Bytes.{byte, word, version_of, count_f, count_n, record_at, node_from, nodes_from, nodes_of}
use Rattle.listing.specs.Bytes.{heading_bytes, node_bytes, nodes_bytes, bytes_of}
use Rattle.listing.specs.Form.{Formed}
use Rattle.listing.specs.Valid.{Headed}
use Rattle.listing.proofs.Nodes.{nodes_length}
use Rattle.listing.proofs.Headed.{formed_headed}

-- ── Reading what was written ────────────────────────────────────────────────
pub nodes_bytes_length : (L : Listing) → length (nodes_bytes L) ≡ RECORD * length L
nodes_bytes_length [] = refl
nodes_bytes_length (n ∷ ns) = omega (arith, nodes_bytes_length ns)

-- one row of records after another
pub bytes_append : (L M : Listing) → nodes_bytes (L ++ M) ≡ nodes_bytes L ++ nodes_bytes M
bytes_append [] M = refl
bytes_append (n ∷ ns) M = rw (bytes_append ns M, append_assoc)

-- "The whole is exactly 7 + 6N bytes"
pub bytes_length : (v f : ℕ) (L : Listing) → length (bytes_of v f L) ≡ record_at (length L)
unfolding bytes_of
bytes_length v f L = omega (arith, nodes_bytes_length L)

-- a number of two bytes
word_read : (w : ℕ) → word (w % 256) (w / 256) ≡ w
word_read w = omega arith

record_read : (n : Node) (rest : List ℕ) → node_from (node_bytes n ++ rest) 0 ≡ n
record_read n rest =
    λ i. record { routine = n.routine; kind = n.kind; location = word_read n.location i; first = n.first; second = n.second }

past : (us s : List ℕ) (o k : ℕ) → byte (us ++ s) (length us + o + k) ≡ byte s (o + k)
past us s o k = rw add_assoc (get_or-append-add us s (o + k) 0)

record_past : (us s : List ℕ) (o : ℕ) → node_from (us ++ s) (length us + o) ≡ node_from s o
record_past us s o = λ i. record {
  routine = get_or-append-add us s o 0 i;
  kind = past us s o 1 i;
  location = word (past us s o 2 i) (past us s o 3 i);
  first = past us s o 4 i;
  second = past us s o 5 i;
}

-- bytes put before the records move them on
records_past : (us s : List ℕ) (o k : ℕ) → nodes_from (us ++ s) (length us + o) k ≡ nodes_from s o k
records_past us s o zero = refl
records_past us s o (suc k) = ap₂ (λ (x : Node) (xs : Listing). x ∷ xs) (record_past us s o) (rw add_assoc (records_past us s (o + RECORD) k))

records_read : (L : Listing) → nodes_from (nodes_bytes L) 0 (length L) ≡ L
records_read [] = refl
records_read (n ∷ ns) =
    ap₂ (λ (x : Node) (xs : Listing). x ∷ xs)
    (record_read n (nodes_bytes ns))
    (records_past (node_bytes n) (nodes_bytes ns) 0 (length ns) ∙ records_read ns)

-- READING WHAT WAS WRITTEN, of whatever version, gives the heading's numbers and the nodes back
module _ (v f : ℕ) (L : Listing) where
  pub read_version : version_of (bytes_of v f L) ≡ v
  unfolding bytes_of
  read_version = word_read v

  pub read_count_f : count_f (bytes_of v f L) ≡ f
  unfolding bytes_of
  read_count_f = refl

  pub read_written : nodes_of (bytes_of v f L) ≡ L
  unfolding nodes_of bytes_of
  read_written = records_past (heading_bytes v f (length L)) (nodes_bytes L) 0 (length L) ∙ records_read L

-- ── Writing what was read ───────────────────────────────────────────────────
-- k bytes from place o on
abbrev run : List ℕ → ℕ → ℕ → List ℕ
run s o zero = []
run s o (suc k) = byte s o ∷ run s (suc o) k

drop_run : (s : List ℕ) (o k : ℕ) → o + k ≤ length s → drop o s ≡ run s o k ++ drop (o + k) s
drop_run s o zero h = rw add-zero
drop_run s o (suc k) h =
    let next : suc o + k ≡ o + suc k = omega arith in
    drop-cons s o 0 (omega arith)
    ∙ ap (λ (l : List ℕ). byte s o ∷ l) (drop_run s (suc o) k (omega arith) ∙ ap (λ (j : ℕ). run s (suc o) k ++ drop j s) next)

-- a byte is below 256
abbrev pub Bytes : List ℕ → Type 0
Bytes s = (i : ℕ) → byte s i < 256

low_byte : (a b : ℕ) → a < 256 → word a b % 256 ≡ a
low_byte a b h = omega arith

high_byte : (a b : ℕ) → a < 256 → word a b / 256 ≡ b
high_byte a b h = omega arith

record_written : (s : List ℕ) (o : ℕ) → Bytes s → node_bytes (node_from s o) ≡ run s o RECORD
record_written s o b =
    let x = byte s (o + 2) in
    let y = byte s (o + 3) in
    rw (low_byte x y (b (o + 2)), high_byte x y (b (o + 2))) (simp towards_suc)

records_written : (s : List ℕ) (o k : ℕ) → Bytes s → length s ≡ o + RECORD * k → nodes_bytes (nodes_from s o k) ≡ drop o s
records_written s o zero b h = sym (drop_of_length-le s {i = o} (omega arith))
records_written s o (suc k) b h =
    ap₂ (λ (x y : List ℕ). x ++ y) (record_written s o b) (records_written s (o + RECORD) k b (omega arith))
    ∙ sym (drop_run s o RECORD (omega arith))

heading_written : (s : List ℕ) → Bytes s → Headed s → heading_bytes (version_of s) (count_f s) (count_n s) ≡ run s 0 HEADING
heading_written s b h =
    let x = byte s 3 in
    let y = byte s 4 in
    rw (h.mark₀, h.mark₁, h.mark₂, low_byte x y (b 3), high_byte x y (b 3))

nodes_written : (s : List ℕ) → Bytes s → length s ≡ record_at (count_n s) → nodes_bytes (nodes_of s) ≡ drop HEADING s
unfolding nodes_of
nodes_written s b h = records_written s HEADING (count_n s) b h

-- WRITING WHAT WAS READ gives the bytes back
pub write_read : (s : List ℕ) → Bytes s → Formed s → bytes_of (version_of s) (count_f s) (nodes_of s) ≡ s
unfolding bytes_of
write_read s b e =
    let h = formed_headed s e in
    ap₂ (λ (x y : List ℕ). x ++ y)
    (ap (heading_bytes (version_of s) (count_f s)) (nodes_length s) ∙ heading_written s b h)
    (nodes_written s b h.exact)
    ∙ sym (drop_run s 0 HEADING h.long)
