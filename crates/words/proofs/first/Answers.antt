-- `words::first` meets its contract: it is what `find` finds.
use mathlib.Core.Bool.{not}
use borrow.Author.Tests.{tests}
use Rattle.std.proofs.Common.{rules}
use Rattle.std.proofs.lemmas.Iterator.{first_from_Range}
use Rattle.words.proofs.Finding.{BlankAt, spent, until}
use Rattle.words.proofs.first.Goals as goal

pub returns : goal.returns
returns c =
    let a = c.args in
    let s = a.s.now in
    let v = a.blank in
    let ran = c.find.ensures.ran in
    rw c.unwrap_or.ensures
    (until s a.at v c.requires c.find.result (λ e. spent ran.0 _ _ ran.2 e c.requires)
    (first_from_Range _ _ _ _ (BlankAt s v) (BlankAt s (not v)) ran (λ k q h. search (rules, tests)) (λ k q h. search (rules, tests))))
