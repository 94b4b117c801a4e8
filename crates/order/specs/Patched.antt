-- Fences put in: the patched listing.
use Rattle.std.specs.Prelude.{List, [], ◌∷◌, ◌++◌, Bool, true, false, ℕ, suc, length, get_or}
use Rattle.listing.specs.Kinds.{FENCE}
use Rattle.listing.specs.Node.{Node, none, Listing}

-- "A patch map has one byte a node, 1 for a fence after it, 0 for none": as marks, `true` for a fence
abbrev pub Marks : Type 0
Marks = List Bool

abbrev pub marked : Marks → ℕ → Bool
marked ms a = get_or ms a false

-- how many marks there are: the places of the map
abbrev pub places : Marks → ℕ
places [] = 0
places (true ∷ ms) = suc (places ms)
places (false ∷ ms) = places ms

-- "n's only successor is then the fence", whose number is k
abbrev pub redirect : Node → ℕ → Node
redirect n k = record { routine = n.routine; kind = n.kind; location = n.location; first = k; second = none }

-- "A fence after node n has n's routine and n's old successors"; its "location is 0"
abbrev pub fence_after : Node → Node
fence_after n = record { routine = n.routine; kind = FENCE; location = 0; first = n.first; second = n.second }

-- the old nodes: "Fences are numbered" from k "upward in the order of the nodes they follow"
abbrev pub kept : ℕ → Listing → Marks → Listing
kept k [] ms = []
kept k (n ∷ ns) [] = n ∷ ns
kept k (n ∷ ns) (true ∷ ms) = redirect n k ∷ kept (suc k) ns ms
kept k (n ∷ ns) (false ∷ ms) = n ∷ kept k ns ms

-- the fences, in that order
abbrev pub fences : Listing → Marks → Listing
fences [] ms = []
fences (n ∷ ns) [] = []
fences (n ∷ ns) (true ∷ ms) = fence_after n ∷ fences ns ms
fences (n ∷ ns) (false ∷ ms) = fences ns ms

-- "numbered from N upward"
abbrev pub patched : Listing → Marks → Listing
patched L ms = kept (length L) L ms ++ fences L ms
