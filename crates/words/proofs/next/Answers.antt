-- `words::next` meets its contract: the blanks are passed, and the word that begins there is told.
use Rattle.words.proofs.Finding.{none_found, one_found}
use Rattle.words.proofs.next.Goals as goal

pub returns-then-s-start : goal.returns-then-s-start
returns-then-s-start c =
    let a = c.args in
    none_found a.s.now a.at _ c.first-start.ensures c.if-s-start.true

pub returns : goal.returns
returns c =
    let a = c.args in
    one_found a.s.now a.at _ _ _ c.first-start.ensures c.if-s-start.false c.first-end.ensures c.meaning.ensures
