-- The rehearsed listings of version 2, as one table. It serves computed tests alone: `armv8_right` in proofs/Cases.antt says that every row is right.
use Rattle.std.specs.Prelude.{List, [], ◌∷◌, ◌++◌, ℕ, suc, length}
use Rattle.listing.specs.Kinds.{READ, WRITE, RMW, FENCE, ACQUIRE, RELEASE, LOAD_FENCE, STORE_FENCE, ACQUIRE_PC}
use Rattle.listing.specs.Node.{none, Listing}
use Rattle.order.specs.Verdict.{Verdict, robust, opened}
use Rattle.order.specs.Cases.{Case, of, at, also, x, y, z, forth, back, around}

-- a node before its routine and successors: its kind and its location
abbrev Item : Type 0
Item = ℕ × ℕ

abbrev read : ℕ → Item
read l = (READ, l)

abbrev write : ℕ → Item
write l = (WRITE, l)

abbrev rmw : ℕ → Item
rmw l = (RMW, l)

abbrev acquire : ℕ → Item
acquire l = (ACQUIRE, l)

abbrev release : ℕ → Item
release l = (RELEASE, l)

abbrev acquire_pc : ℕ → Item
acquire_pc l = (ACQUIRE_PC, l)

abbrev full : Item
full = (FENCE, 0)

abbrev load : Item
load = (LOAD_FENCE, 0)

abbrev store : Item
store = (STORE_FENCE, 0)

-- routine r, its first node numbered i: "Arrows go to the next node of the routine"
abbrev line : ℕ → ℕ → List Item → Listing
line r i [] = []
line r i (n ∷ []) = at r n.0 n.1 none none ∷ []
line r i (n ∷ m ∷ ns) = at r n.0 n.1 (suc i) none ∷ line r (suc i) (m ∷ ns)

-- two routines
abbrev two : List Item → List Item → Listing
two ns ms = line 0 0 ns ++ line 1 (length ns) ms

-- OPEN with a chain of two pairs
abbrev chain : ℕ → ℕ → ℕ → ℕ → Verdict
chain a b c d = opened (a, b) ((c, d) ∷ [])

-- "OPEN 3 5, chain 3-5 0-2"
abbrev turned : Verdict
turned = chain 3 5 0 2

-- the six questions' answers
abbrev six : Listing → Verdict → Verdict → Verdict → Verdict → Verdict → Verdict → List Case
six L v₁ v₂ v₃ v₄ v₅ v₆ = of 1 L [] v₁ ∷ of 2 L [] v₂ ∷ of 3 L [] v₃ ∷ of 4 L [] v₄ ∷ of 5 L [] v₅ ∷ of 6 L [] v₆ ∷ []

-- OPEN with three: 0-1, 1-2, 3-5
abbrev three : Verdict
three = opened (0, 1) ((1, 2) ∷ (3, 5) ∷ [])

-- "0 acquire x, 1 acquirePC y; 2 acquirePC y, 3 acquire x"
abbrev acquiring : Listing
acquiring = two (acquire x ∷ acquire_pc y ∷ []) (acquire_pc y ∷ acquire x ∷ [])

-- "a store fence, a load fence, with 3 to 4 and 5"
abbrev one_way : Listing
one_way = line 0 0 (write x ∷ store ∷ write y ∷ []) ++ (at 1 READ y 4 5 ∷ line 1 4 (load ∷ read x ∷ []))

-- what ARMv8 keeps in order, what its fences bar, and what neither does
abbrev pub armv8 : List (List Case)
armv8 =
    six (two (write x ∷ release y ∷ []) (acquire y ∷ read x ∷ [])) robust forth forth back robust robust
    ∷ six (two (write x ∷ release y ∷ []) (read y ∷ read x ∷ [])) robust forth forth back back back
    ∷ six (two (write x ∷ write y ∷ []) (acquire y ∷ read x ∷ [])) robust forth forth back forth forth
    ∷ six (two (write x ∷ release y ∷ []) (acquire_pc y ∷ read x ∷ [])) robust forth forth back robust robust
    ∷ six (two (release x ∷ acquire y ∷ []) (release y ∷ acquire x ∷ [])) forth forth robust robust robust robust
    ∷ six (two (release x ∷ acquire_pc y ∷ []) (release y ∷ acquire_pc x ∷ [])) forth forth robust robust forth robust
    ∷ six (two (write x ∷ acquire y ∷ []) (write y ∷ acquire x ∷ [])) forth forth robust robust forth robust
    ∷ six (two (release x ∷ write y ∷ []) (acquire y ∷ read x ∷ [])) robust forth forth back forth forth
    ∷ six acquiring robust robust robust robust robust robust
    ∷ six (also 3 RELEASE y (also 2 RELEASE x acquiring)) robust forth forth forth robust robust
    ∷ six (two (write x ∷ store ∷ write y ∷ []) (read y ∷ load ∷ read x ∷ [])) robust around around turned robust robust
    ∷ six (two (write x ∷ store ∷ write y ∷ []) (read y ∷ read x ∷ [])) robust (chain 0 2 3 4) (chain 0 2 3 4) (chain 3 4 0 2) (chain 3 4 0 2) (chain 3 4 0 2)
    ∷ six (two (write x ∷ write y ∷ []) (read y ∷ load ∷ read x ∷ [])) robust (chain 0 1 2 4) (chain 0 1 2 4) (chain 2 4 0 1) (chain 0 1 2 4) (chain 0 1 2 4)
    ∷ six (two (write x ∷ load ∷ write y ∷ []) (read y ∷ store ∷ read x ∷ [])) robust around around turned around around
    ∷ six one_way robust around around turned turned turned
    ∷ six (two (read x ∷ load ∷ write y ∷ []) (read y ∷ load ∷ write x ∷ [])) robust around around around robust robust
    ∷ six (two (read x ∷ store ∷ write y ∷ []) (read y ∷ store ∷ write x ∷ [])) robust around around around around around
    ∷ six (two (release x ∷ load ∷ read y ∷ []) (release y ∷ load ∷ read x ∷ [])) around around robust robust around robust
    ∷ six (two (write x ∷ store ∷ read y ∷ []) (write y ∷ store ∷ read x ∷ [])) around around robust robust around robust
    ∷ six (two (release x ∷ store ∷ write y ∷ []) (acquire y ∷ read x ∷ [])) robust (chain 0 2 3 4) (chain 0 2 3 4) (chain 3 4 0 2) robust robust
    ∷ six (two (rmw x ∷ load ∷ read y ∷ []) (rmw y ∷ load ∷ read x ∷ [])) robust around around around around around
    ∷ six (two (rmw x ∷ store ∷ write y ∷ []) (acquire y ∷ read x ∷ [])) robust (chain 0 2 3 4) (chain 0 2 3 4) (chain 0 2 3 4) (chain 0 2 3 4) (chain 0 2 3 4)
    ∷ six (two (acquire x ∷ rmw y ∷ []) (rmw y ∷ release x ∷ [])) robust forth forth forth robust robust
    ∷ six (two (rmw x ∷ acquire y ∷ []) (rmw y ∷ acquire x ∷ [])) robust forth forth forth forth forth
    ∷ six (two (write x ∷ rmw x ∷ acquire y ∷ []) (write y ∷ rmw y ∷ acquire x ∷ [])) robust around around (chain 1 2 3 5) around around
    ∷ six (two (release x ∷ rmw x ∷ acquire y ∷ []) (release y ∷ rmw y ∷ acquire x ∷ [])) robust around around (chain 1 2 3 5) (chain 1 2 3 5) (chain 1 2 3 5)
    ∷ six (two (write x ∷ release z ∷ acquire y ∷ []) (write y ∷ full ∷ read x ∷ [])) around three three robust around robust
    ∷ six (two (release x ∷ full ∷ acquire_pc y ∷ []) (release y ∷ full ∷ acquire_pc x ∷ [])) robust robust robust robust robust robust
    ∷ []
