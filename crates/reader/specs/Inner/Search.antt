-- The search for the nodes that are entered: those found, and those still to be followed. Each is a set, one row of bits.
use Rattle.std.specs.Prelude.{◌≡◌, ◌⊎◌, List, ℕ, ◌<◌, Option, Some}
use Rattle.listing.specs.Limits.{ROUTINES}
use Rattle.listing.specs.Node.{Listing, node}
use Rattle.listing.specs.Bytes.{count_n, nodes_of}
use Rattle.order.specs.Walks.{Succ}
use Rattle.order.specs.Entered.{EntryOf, Entered}
use Rattle.rows.specs.Inner.Rows.{Has, Members}

-- routines have their numbers, and links stay in their routines: what every listing of right form has
pub record Housed (s : List ℕ) : Type 0 where
  pub low : (a : ℕ) → a < count_n s → (node (nodes_of s) a).routine < ROUTINES
  pub home : (a b : ℕ) → Succ (nodes_of s) a b → (node (nodes_of s) b).routine ≡ (node (nodes_of s) a).routine

-- a is its routine's entry
abbrev pub IsEntry : Listing → ℕ → Type 0
IsEntry L a = EntryOf L (node L a).routine a

-- of the nodes below i: the routines that they are of, and the entries among them
pub record Seen (L : Listing) (routines found : List ℕ) (i : ℕ) : Type 0 where
  pub of : (r : ℕ) → r < 128 → Has routines 0 r → (b : ℕ) × (b < i) × ((node L b).routine ≡ r)
  pub each : (b : ℕ) → b < i → Has routines 0 (node L b).routine
  pub entries : Members found i (IsEntry L)

-- what is found is entered, and has every entry; its links lead to what is found, but for those of nodes still to be followed:
-- what `waiting` has, and `at`, if there is one
pub record Hunt (L : Listing) (n : ℕ) (found waiting : List ℕ) (at : Option ℕ) : Type 0 where
  pub sound : (x : ℕ) → x < 128 → Has found 0 x → (x < n) × Entered L x
  pub entries : (r e : ℕ) → EntryOf L r e → Has found 0 e
  pub due : (x : ℕ) → x < 128 → Has waiting 0 x → Has found 0 x
  pub here : (a : ℕ) → at ≡ Some a → (a < n) × Has found 0 a
  pub closed : (x y : ℕ) → x < n → Has found 0 x → Succ L x y → Has found 0 y ⊎ (Has waiting 0 x ⊎ (at ≡ Some x))

-- b, if it is a node that was not found, is found and left to be followed: w found and t to follow before, v and u after
pub record Left (n : ℕ) (w t v u : List ℕ) (b : ℕ) : Type 0 where
  pub found : (x : ℕ) → x < 128 → Has v 0 x → Has w 0 x ⊎ ((x ≡ b) × (b < n) × Has u 0 x)
  pub keeps : (x : ℕ) → x < 128 → Has w 0 x → Has v 0 x
  pub new : b < n → Has v 0 b
  pub waiting : (x : ℕ) → x < 128 → Has u 0 x → Has t 0 x ⊎ ((x ≡ b) × (b < n) × (Has w 0 x → ⊥))
  pub stays : (x : ℕ) → x < 128 → Has t 0 x → Has u 0 x

-- r is b, found now, if that is a node that was not found, and none else: w found before, v after
pub record Stepped (n : ℕ) (w v : List ℕ) (b : ℕ) (r : Option ℕ) : Type 0 where
  pub found : (x : ℕ) → x < 128 → Has v 0 x → Has w 0 x ⊎ ((x ≡ b) × (b < n) × (r ≡ Some b))
  pub keeps : (x : ℕ) → x < 128 → Has w 0 x → Has v 0 x
  pub new : b < n → Has v 0 b
  pub fresh : (x : ℕ) → r ≡ Some x → (x ≡ b) × (b < n) × (Has w 0 x → ⊥)

-- nothing found is lost, and nothing that was found is left to be followed anew: w found and t to follow before, v and u after
pub record Since (w t v u : List ℕ) : Type 0 where
  pub keeps : (x : ℕ) → x < 128 → Has w 0 x → Has v 0 x
  pub only : (x : ℕ) → x < 128 → Has u 0 x → Has t 0 x ⊎ (Has w 0 x → ⊥)
