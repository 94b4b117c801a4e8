-- `words::tell::same` meets its contract: `all` looks at the pairs, and there are as many as the words have bytes.
use borrow.Author.Tests.{tests}
use Rattle.std.proofs.Common.{rules}
use Rattle.std.proofs.lemmas.Iterator.{YieldsList-from_slice, YieldsList-from_zip, same_from_all}
use Rattle.words.proofs.Same.{told, lengths_differ}
use Rattle.words.proofs.tell.same.Goals as goal

pub returns-then-w-t : goal.returns-then-w-t
returns-then-w-t c =
    let w = c.args.w.now in
    let t = c.args.t.now in
    told w t
    (same_from_all c.all.new.self _ _ _ _ c.all.ensures.ran (YieldsList-from_zip (YieldsList-from_slice w cc) (YieldsList-from_slice t cc)) (search rules)
    (λ x q k. search (rules, tests)) (λ x q k. search (rules, tests)))

pub returns-else-w-t : goal.returns-else-w-t
returns-else-w-t c = lengths_differ _ _ c.if-w-t.false
