-- An input has one line: the promise of the acceptor's line leaves one answer and one content of the lent buffer.
use mathlib.Core.Path.{◌≡◌}
use mathlib.Core.List.{List, [], ◌∷◌}
use Prim.Native.Nat.{ℕ}
use lib.ListN.{take, drop}
use Rattle.listing.specs.Node.{Listing}
use Rattle.listing.specs.Bytes.{byte, nodes_of}
use Rattle.listing.specs.Rules.{Refusal, passed, refused, first_of}
use Rattle.order.specs.Patched.{patched}
use Rattle.order.proofs.Unique.{judged_unique}
use Rattle.fencing.specs.Marks.{marks_of}
use Rattle.say.proofs.Once.{lined_once}
use Rattle.acceptance.specs.Accept.{map_of, PatchedLine, accept_rules, NamedLine, AcceptLine, AcceptLinePromise}

patched_line_once : (f : Refusal) (q : ℕ) (L : Listing) (line line' : List ℕ) → PatchedLine f q L line → PatchedLine f q L line' → line ≡ line'
patched_line_once passed q L line line' h k =
    let e = judged_unique q L h.0 k.0 h.1 k.1 in
    cc
patched_line_once (refused n p) q L line line' h k = cc

named_line_once : (q : ℕ) (s ks line line' : List ℕ) → NamedLine q s ks line → NamedLine q s ks line' → line ≡ line'
named_line_once q s ks line line' h k =
    let map = map_of s ks in
    patched_line_once (first_of (accept_rules q s map)) q (patched (nodes_of s) (marks_of map)) line line' h k

-- THE ACCEPTOR HAS ONE LINE
pub accept_line_once : (input line line' : List ℕ) → AcceptLine input line → AcceptLine input line' → line ≡ line'
accept_line_once [] line line' h k = cc
accept_line_once (q ∷ rest) line line' h k = named_line_once q (drop (byte rest 0) (drop 1 rest)) (take (byte rest 0) (drop 1 rest)) line line' h k

-- ONE ANSWER AND ONE CONTENT
pub accept_says_once : (input old new new' : List ℕ) (r r' : ℕ)
    → AcceptLinePromise input old new r → AcceptLinePromise input old new' r' → (r ≡ r') × (new ≡ new')
accept_says_once input old new new' r r' h k = lined_once (accept_line_once input h.0 k.0 h.1 k.1) h.2 k.2
