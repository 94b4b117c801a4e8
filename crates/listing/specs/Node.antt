-- A node of a listing, and a listing as the list of its nodes: what every rule of order speaks of.
use Rattle.std.specs.Prelude.{List, ℕ, get_or}

-- "routine [..], kind [..], location [..], first successor [..], second successor"
pub record Node : Type 0 where
  pub routine : ℕ
  pub kind : ℕ
  pub location : ℕ
  pub first : ℕ
  pub second : ℕ

-- "Successor 255 means none"
abbrev pub none : ℕ
none = 255

-- what stands where no node is: a plain node that leads nowhere
abbrev pub blank : Node
blank = record { routine = 0; kind = 0; location = 0; first = none; second = none }

abbrev pub Listing : Type 0
Listing = List Node

abbrev pub node : Listing → ℕ → Node
node L a = get_or L a blank
