-- The exported answers are as unique as the services': two structs that say the same are the same.
use mathlib.Core.Path.{◌≡◌, ap}
use Rattle.listing.specs.Answer as paper
use Rattle.nyekushiro.specs.declared.Answer.{Answer}
use Rattle.nyekushiro.specs.Exported.{said}

-- ONE STRUCT for each answer of the rules
pub said_once : (r r' : Answer) → said r ≡ said r' → r ≡ r'
said_once r r' e = λ i. record {
  kind = ap (λ (x : paper.Answer). x.kind) e i;
  first = ap (λ (x : paper.Answer). x.first) e i;
  second = ap (λ (x : paper.Answer). x.second) e i;
  count = ap (λ (x : paper.Answer). x.count) e i;
}
