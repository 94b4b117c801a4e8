-- `lines::Line::pair` meets its contract.
use mathlib.Core.List.{◌++◌}
use Rattle.listing.specs.Ascii.{bytes}
use Rattle.lines.specs.Text.{decimal}
use Rattle.lines.proofs.Growing.{both_grow, room_first, room_left}
use Rattle.lines.proofs.Line.pair.Goals as goal

pub words-requires : goal.words-requires
words-requires c =
    let second = decimal c.args.b in
    room_first c.next.new.self (bytes "-") second (room_left (bytes "-" ++ second) c.requires c.next.ensures)

pub number-requires : goal.number-requires
number-requires c =
    let second = decimal c.args.b in
    room_left second (room_left (bytes "-" ++ second) c.requires c.next.ensures) c.words.ensures

pub returns : goal.returns
returns c = both_grow c.next.ensures (both_grow c.words.ensures c.number.ensures)
