-- What follows a pair on the chain to show, found over rows: its first node's row is the set of goals.
use mathlib.Core.Path.{◌≡◌, sym, ap, ap₂, ◌∙◌, subst}
use mathlib.Core.List.{List, ◌++◌}
use Prim.Native.Nat.{ℕ, ◌*◌, ◌≤◌, ◌<◌}
use native.Mathlib.Omega.{arith}
use lib.ListN.{length, take, drop, take-append-drop}
use Rattle.listing.specs.Limits.{NODES}
use Rattle.listing.specs.Node.{Listing}
use Rattle.listing.specs.Bytes.{count_n, nodes_of}
use Rattle.listing.specs.Answer.{filled}
use Rattle.listing.proofs.Nodes.{nodes_length}
use Rattle.order.specs.Walks.{Access, Pair}
use Rattle.order.specs.Chains.{Ends}
use Rattle.order.specs.Verdict.{Shown}
use Rattle.order.proofs.Laws.{access_in}
use Rattle.order.proofs.Meeting.{meets_sym}
use Rattle.order.proofs.Rounds.{chain_round}
use Rattle.rows.specs.Inner.Rows.{Link}
use Rattle.rows.specs.Inner.Touched.{Copied}
use Rattle.chains.specs.Inner.Far.{Goal}
use Rattle.chains.specs.Inner.Courses as hops
use Rattle.verdict.specs.Judging.{chain_bytes}
use Rattle.verdict.specs.Inner.Showing.{PairOf, Chained, Followed}
use Rattle.verdict.proofs.Shortest.{Kept, chain_length, of_round, best_by_rows}

-- what holds of a shown chain's fields holds of what a contract sees of it
pub seen : {s p m : List ℕ} {a b : ℕ} {v : PairOf} → record { bytes = s; first = a; second = b } ≡ v → Chained s p m a b
    → Chained v.bytes p m v.first v.second
seen {p = p} {m = m} e k = subst (λ (v : PairOf). Chained v.bytes p m v.first v.second) e k

module _ (s p m : List ℕ) (a b : ℕ) (k : Chained s p m a b) where
  abbrev L : Listing
  L = nodes_of s

  abbrev n : ℕ
  n = count_n s

  itself : Pair L a b
  itself = k.chain.1.pairs.0

  below : (x : ℕ) → Access L x → x < n
  below x h = omega (arith, nodes_length s, access_in L x h)

  pub first_low : a < NODES
  first_low = omega (arith, below a itself.from, k.whole.few)

  pub second_low : b < NODES
  second_low = omega (arith, below b itself.to, k.whole.few)

  module _ (t : List ℕ) (c : Copied m a t) where
    low : (x : ℕ) → x < n → x < NODES
    low x h = omega (arith, k.whole.few)

    -- the rows keep what a chain through (a, b) needs
    kept : Kept L (a, b) (Link n m) (Link n p) (Goal n t)
    kept = record {
      hop = λ x y l. (k.meetings.sound x y (low y l.1) l.2).2.2;
      hops = λ x y hx hy h. let lx = below x hx in let ly = below y hy in (lx, ly, k.meetings.whole x y lx ly (hx, hy, h));
      pair = λ x y l. (k.pairs.sound x y (low y l.1) l.2).2;
      pairs = λ x y h. let lx = below x h.from in let ly = below y h.to in (lx, ly, k.pairs.whole x y lx ly h);
      home = λ y l.
          let ly = low y l.0 in
          meets_sym L a y (k.meetings.sound a y ly (sym (c.same y ly) ∙ l.1)).2.2;
      homes = λ y h meets.
          let ly = below y h in
          (ly, c.same y (low y ly) ∙ k.meetings.whole a y (below a itself.from) ly (itself.from, h, meets_sym L y a meets));
    }

    -- what the search over rows stands on
    pub asked : (out : List ℕ) → 2 * n ≤ length out → hops.Sought n m p t out b
    asked out h = record {
      few = k.whole.few;
      low = below b itself.to;
      hops = λ x y l h. let g = k.meetings.sound x y l h in (g.0, g.1);
      pairs = λ x y l h. let g = k.pairs.sound x y l h in (g.0, g.1);
      fits = h;
      some = (chain_bytes k.chain.0, of_round kept k.chain.0 (chain_round L (a, b) k.chain.0 k.chain.1));
    }

    -- THE SEARCH FINDS what follows (a, b) on the chain to show
    pub followed : (old new : List ℕ) (i : ℕ) → hops.ShownCourse n m p t old new b i → Followed L a b old new i
    followed old new i h =
        let g = best_by_rows kept (take (2 * i) new) itself h.best in
        found g.0 g.1 g.2
      where
        found : (rest : List Ends) → take (2 * i) new ≡ chain_bytes rest → Shown L (a, b) rest → Followed L a b old new i
        found rest e g = record { rest = rest; shown = g; count = omega (arith, chain_length rest, long); bytes = bytes }
          where
            long : length (chain_bytes rest) ≡ 2 * i
            long = sym (ap length e) ∙ h.count

            bytes : new ≡ filled (chain_bytes rest) old
            bytes =
                sym (take-append-drop (2 * i) new)
                ∙ ap₂ (λ (u v : List ℕ). u ++ v) e (h.beyond ∙ ap (λ (v : ℕ). drop v old) (sym long))
