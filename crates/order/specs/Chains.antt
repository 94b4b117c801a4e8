-- Meeting, joining and chains.
use Rattle.std.specs.Prelude.{List, ◌∷◌, Bool, not, ◌&&◌, ◌||◌, ℕ, T, eqb, leb}
use Rattle.listing.specs.Node.{Listing}
use Rattle.order.specs.Rows.{All, Different, some, Row}
use Rattle.order.specs.Walks.{kind_at, loc_at, counts_read, is_writer, Pair}

-- "Location 0 on an access: unknown, may be any cell"
abbrev pub is_unknown : ℕ → Bool
is_unknown x = eqb x 0

-- "1 to 32767: one cell. 32768 to 65535: a block of cells"
abbrev pub is_cell : ℕ → Bool
is_cell x = leb 1 x && leb x 32767

-- "if either location is unknown or the numbers are equal"
abbrev pub overlap : ℕ → ℕ → Bool
overlap x y = is_unknown x || (is_unknown y || eqb x y)

-- "two reads": "one node twice" among them
abbrev pub two_reads : Listing → ℕ → ℕ → Bool
two_reads L b c = counts_read (kind_at L b) && counts_read (kind_at L c)

-- "the listing has a write or an RMW that may meet both of them", who stand at x and y
abbrev pub written : Listing → ℕ → ℕ → Bool
written L x y = some (λ w. is_writer w.kind && (overlap w.location x && overlap w.location y)) L

-- "Two accesses may meet"; "two reads may meet only if the listing has a write or an RMW that may meet both of them"
abbrev pub meets : Listing → ℕ → ℕ → Bool
meets L b c = overlap (loc_at L b) (loc_at L c) && (not (two_reads L b c) || written L (loc_at L b) (loc_at L c))

abbrev pub MayMeet : Listing → ℕ → ℕ → Type 0
MayMeet L b c = T (meets L b c)

-- "They surely meet if the numbers are equal and name one cell"
abbrev pub surely : ℕ → ℕ → Bool
surely x y = eqb x y && is_cell x

abbrev pub SurelyMeet : Listing → ℕ → ℕ → Type 0
SurelyMeet L a b = T (surely (loc_at L a) (loc_at L b))

-- the two nodes of a pair, as an entry of a chain
abbrev pub Ends : Type 0
Ends = ℕ × ℕ

abbrev pub IsPair : Listing → Ends → Type 0
IsPair L p = Pair L p.0 p.1

-- "A pair (a, b) is joined to a pair (c, d), itself or another, if b and c may meet"
abbrev pub Joined : Listing → Ends → Ends → Type 0
Joined L p q = MayMeet L p.1 q.0

-- "A chain through a pair is a list of pairs, all different, at least one, starting with it, each joined to the next and the
-- last to the first": the list is `p ∷ rest`. "A pair joined to itself is a chain of one pair": `rest` is empty
pub record Chain (L : Listing) (p : Ends) (rest : List Ends) : Type 0 where
  pub pairs : All (IsPair L) (p ∷ rest)
  pub different : Different (p ∷ rest)
  pub closed : Row (Joined L) p rest p
