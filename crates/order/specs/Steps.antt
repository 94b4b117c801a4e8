-- The third demand: closed chains of steps, over walks and the need-for-order table.
use Rattle.std.specs.Prelude.{◌⊎◌, List, ◌∷◌, ℕ}
use Rattle.listing.specs.Node.{Listing}
use Rattle.order.specs.Rows.{All, In, Some, Row}
use Rattle.order.specs.Walks.{Access, Walk}
use Rattle.order.specs.Chains.{SurelyMeet, Ends, Joined}
use Rattle.order.specs.Need.{Needs, Barrier}

-- "A step is one thread's walk between the ends of a pair"
pub record Step (L : Listing) : Type 0 where
  pub from : ℕ
  pub to : ℕ
  pub inside : List ℕ
  pub from_access : Access L from
  pub to_access : Access L to
  pub walk : Walk L from inside to

abbrev pub ends : {L : Listing} → Step L → Ends
ends s = (s.from, s.to)

-- "each step's second access may meet the next one's first (the hop)"
abbrev pub Hop : (L : Listing) → Step L → Step L → Type 0
Hop L s t = Joined L (ends s) (ends t)

-- "A closed chain of steps is a list of at least two, repeats allowed": the list is `s ∷ rest`
pub record Ring (L : Listing) (s : Step L) (rest : List (Step L)) : Type 0 where
  pub two : Some rest
  pub closed : Row (Hop L) s rest s

-- "A step is in order if its ends surely meet or a barrier is inside the walk taken"
abbrev pub InOrder : ℕ → (L : Listing) → Step L → Type 0
InOrder q L s = SurelyMeet L s.from s.to ⊎ ((c : ℕ) × In c s.inside × Barrier q L s.from s.to c)

-- "It is free of need if its pair doesn't need order by the table"
abbrev pub Free : ℕ → (L : Listing) → Step L → Type 0
Free q L s = Needs q L s.from s.to → ⊥

-- "every closed chain of steps, for any number of threads on any walks, has each step in order or free of need"
abbrev pub Ordered : ℕ → Listing → Type 0
Ordered q L = (s : Step L) (rest : List (Step L)) → Ring L s rest → All (λ t. InOrder q L t ⊎ Free q L t) (s ∷ rest)
