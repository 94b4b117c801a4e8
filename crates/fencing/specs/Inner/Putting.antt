-- The patched listing node by node, as the writer puts it: b says whether the node is marked.
use Rattle.std.specs.Prelude.{Bool, true, false, [], ◌∷◌, ℕ, suc}
use Rattle.listing.specs.Node.{Node, Listing}
use Rattle.order.specs.Patched.{redirect, fence_after}

-- the node n, where the next fence has number k
abbrev pub kept_as : Bool → Node → ℕ → Node
kept_as true n k = redirect n k
kept_as false n k = n

-- the fence after n, if there is one
abbrev pub fence_if : Bool → Node → Listing
fence_if true n = fence_after n ∷ []
fence_if false n = []

-- the number of the fence after that
abbrev pub next_after : Bool → ℕ → ℕ
next_after true k = suc k
next_after false k = k
