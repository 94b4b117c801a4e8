-- From the search for the first failing pair to the verdict.
use mathlib.Core.Path.{◌≡◌, refl, sym, ap}
use mathlib.Core.List.{List}
use Prim.Native.Nat.{ℕ}
use Rattle.std.specs.Prelude.{Some, None}
use lib.ListN.{length}
use Rattle.listing.specs.Bytes.{count_n, nodes_of}
use Rattle.listing.specs.Answer.{done, open_at}
use Rattle.listing.proofs.Nodes.{nodes_length}
use Rattle.order.specs.Verdict.{robust, opened}
use Rattle.failing.specs.declared.search.Found.{Found}
use Rattle.failing.specs.Inner.Failing.{Laid, NextIfAny}
use Rattle.failing.proofs.Searching.{first_found, none_robust}
use Rattle.verdict.specs.Judging.{Told}
use Rattle.verdict.specs.Inner.Showing.{Chained, Showed}

module _ (q : ℕ) (s : List ℕ) where
  size : count_n s ≡ length (nodes_of s)
  size = sym (nodes_length s)

  -- ROBUST: no pair fails, and nothing is written
  pub told_robust : (old : List ℕ) → NextIfAny q (nodes_of s) (count_n s) 0 0 None → Told q (nodes_of s) old old (done 0 0 0)
  told_robust old next = record { verdict = robust; judged = none_robust q (nodes_of s) (count_n s) size next; says = refl; writes = refl }

  module _ (p : Found) (next : NextIfAny q (nodes_of s) (count_n s) 0 0 (Some p)) where
    -- what showing the first failing pair's chain stands on
    pub chained : (w m c i : List ℕ) → Laid q s w m c i → Chained s w m p.first p.second
    chained w m c i l = record { whole = l.prepared.whole; pairs = l.pairs; meetings = l.meetings; chain = (next.1.here next.0).chain }

    -- OPEN: the first failing pair, and its chain at the buffer's start
    pub told_open : (old new : List ℕ) (k : ℕ) → Showed (nodes_of s) p.first p.second old new k
        → Told q (nodes_of s) old new (open_at p.first p.second k)
    told_open old new k h = record {
      verdict = opened (p.first, p.second) h.rest;
      judged = (first_found q (nodes_of s) (count_n s) size p next, h.shown);
      says = ap (open_at p.first p.second) h.count;
      writes = h.bytes;
    }
