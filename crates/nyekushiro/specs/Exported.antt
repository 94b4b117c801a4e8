-- The exported answer, as the rules' numbers.
use Rattle.listing.specs.Answer as paper
use Rattle.nyekushiro.specs.declared.Answer.{Answer}

-- the four numbers of the exported struct are those of the answer
abbrev pub said : Answer → paper.Answer
said r = record { kind = r.kind; first = r.first; second = r.second; count = r.count }
