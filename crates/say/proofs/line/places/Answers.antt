-- What the search leaves of `say::line::places`.
use mathlib.Core.Path.{ap, ◌∙◌}
use mathlib.Core.List.{List, ◌++◌}
use Prim.Native.Nat.{ℕ, ◌+◌, ◌*◌, ◌≤◌}
use native.Mathlib.Omega.{arith}
use lib.ListN.{length, drop}
use Rattle.listing.specs.Bytes.{byte}
use Rattle.lines.specs.Text.{next}
use Rattle.lines.proofs.Growing.{still_grown, more_grown, all_grown, room_within}
use Rattle.say.specs.Inner.Answers.{places_of}
use Rattle.lines.specs.Inner.Growing.{HasRoom}
use Rattle.say.proofs.Sizes.{places_room}
use Rattle.say.proofs.Pieces.{is_place, no_place, place_next, map_ends}
use Rattle.say.proofs.line.places.Goals as goal
use Rattle.say.proofs.line.places.Goals.{Start, then-byte-eq1, else-byte-eq1}

-- the places behind place i
abbrev behind : List ℕ → ℕ → List ℕ
behind map i = places_of (i + 1) (drop (i + 1) map)

-- four bytes a byte of the map's are enough
room : (s : Start) → length (places_of 0 s.args.map.now) ≤ 4 * length s.args.map.now
room s = places_room 0 s.args.map.now (omega arith)

pub next-requires : goal.next-requires
next-requires c =
    let map = c.args.map.now in
    let i = c.loop-i.i in
    let here = place_next map i c.loop-i-test.true ∙ ap (λ (t : List ℕ). t ++ behind map i) (is_place i (byte map i) c.if-byte-eq1.true) in
    let whole : HasRoom c.args.line.now (places_of 0 map) = omega (arith, room (goal.at.next-requires c).Start) in
    room_within (next i) (behind map i) whole c.loop-i.invariant here

pub loop-i-preserved : goal.loop-i-preserved
loop-i-preserved c =
    let map = c.args.map.now in
    let i = c.loop-i.i in
    let here = place_next map i c.loop-i-test.true in
    elim c.if-byte-eq1.branch [
      | then-byte-eq1 w ↦
          rw w.line-is
          (more_grown c.loop-i.invariant (here ∙ ap (λ (t : List ℕ). t ++ behind map i) (is_place i (byte map i) w.if-byte-eq1.true)) w.next.ensures)
      | else-byte-eq1 w ↦
          rw w.line-is
          (still_grown c.loop-i.invariant (here ∙ ap (λ (t : List ℕ). t ++ behind map i) (no_place i (byte map i) w.if-byte-eq1.false)))
    ]

pub returns : goal.returns
returns c =
    let put = all_grown c.loop-i.invariant (map_ends c.args.map.now c.loop-i.i c.loop-i-test.false) in
    record { put = put; upper_bound = omega (arith, put.put.goes_on, room (goal.at.returns c).Start) }
