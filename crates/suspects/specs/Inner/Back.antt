-- Coming back: how a pair closes a chain, said by nodes and not by lists of pairs.
use Rattle.std.specs.Prelude.{◌≡◌, ◌⊎◌, List, ℕ}
use Rattle.listing.specs.Node.{Listing}
use Rattle.order.specs.Rows.{Row}
use Rattle.order.specs.Chains.{MayMeet, IsPair}
use Rattle.rows.specs.Inner.Rows.{Has, Meet}

-- some pair that starts at c has an end that meets a
abbrev pub Turns : Listing → ℕ → ℕ → Type 0
Turns L a c = (d : ℕ) × MayMeet L a d × IsPair L (c, d)

-- a is reached from c by pairs and hops
abbrev pub Led : Listing → ℕ → ℕ → Type 0
Led L a c = (inside : List ℕ) × Row (Turns L) a inside c

-- c leads back to a, by no step at all or by pairs and hops
abbrev pub Leads : Listing → ℕ → ℕ → Type 0
Leads L a c = (a ≡ c) ⊎ Led L a c

-- the end b hops to a node that leads back to a
abbrev pub Back : Listing → ℕ → ℕ → Type 0
Back L a b = (c : ℕ) × MayMeet L b c × Leads L a c

-- the same of a pair, by rows: p keeps the pairs, m who meets whom, h who leads back to whom
abbrev pub RowBack : List ℕ → List ℕ → List ℕ → ℕ → ℕ → Type 0
RowBack p m h a b = Has p a b × Meet m b h a
