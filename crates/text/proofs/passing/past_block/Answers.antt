-- `text::passing::past_block` meets its contract: each word leads on, and its own `}` ends it.
use mathlib.Core.Path.{refl, sym, ◌∙◌}
use native.Mathlib.Omega.{arith}
use Rattle.grammar.specs.Inner.Reader.{Looked}
use Rattle.grammar.proofs.Kept.{looked}
use Rattle.text.proofs.Passes.{makes_few, past_nothing, past_last, past_inner, past_open, past_other}
use Rattle.text.proofs.passing.past_block.Goals as goal
use Rattle.text.proofs.passing.past_block.Goals.{After-look}

-- the next word of the text was looked at
word : (c : After-look) → Looked c.args.on.now.text c.loop-opened.on c.look.new.self c.look.result
word c = looked c.loop-opened.invariant.text c.look.ensures

pub returns-in-End : goal.returns-in-End
returns-in-End c = past_nothing c.loop-opened.invariant (word (goal.at.returns-in-End c).After-look) c.in-End.is

-- a `}`
pub returns-then-opened-le1 : goal.returns-then-opened-le1
returns-then-opened-le1 c =
    past_last c.loop-opened.invariant (word (goal.at.returns-then-opened-le1 c).After-look) c.in-Close.is (omega arith)

pub loop-opened-preserved-in-Close : goal.loop-opened-preserved-in-Close
loop-opened-preserved-in-Close c =
    past_inner c.loop-opened.invariant (word (goal.at.loop-opened-preserved-in-Close c).After-look) c.in-Close.is (omega arith)

pub loop-opened-preserved-in-Open : goal.loop-opened-preserved-in-Open
loop-opened-preserved-in-Open c =
    let look = word (goal.at.loop-opened-preserved-in-Open c).After-look in
    past_open c.loop-opened.invariant look (λ z. let two = sym z ∙ c.in-Open.is in absurd cc) (omega arith) c.pass.ensures c.in-Open.is refl

pub loop-opened-preserved : goal.loop-opened-preserved
loop-opened-preserved c =
    let look = word (goal.at.loop-opened-preserved c).After-look in
    let few = makes_few c.look.result in
    past_other c.loop-opened.invariant look c.in_default.not-End (omega (arith, c.makes.ensures)) c.pass-in_default.ensures c.makes.ensures
    c.in_default.not-Open c.in_default.not-Close
