-- `reader::search::missing` meets its contract.
use Rattle.std.proofs.Common.{rules}
use Rattle.std.proofs.lemmas.Iterator.{first_from_Range}
use Rattle.rows.specs.Inner.Rows.{Has}
use Rattle.reader.proofs.Finding.{first_lacking}
use Rattle.reader.proofs.search.missing.Goals as goal

pub returns : goal.returns
returns c =
    let has = Has c.args.found.now 0 in
    first_lacking has c.args.n c.find.result
    (first_from_Range _ _ _ c.find.result (λ a. has a → ⊥) has c.find.ensures.ran (λ a f k. search rules) (λ a f k. search rules))
