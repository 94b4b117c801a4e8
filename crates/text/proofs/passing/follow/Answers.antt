-- `text::passing::follow` meets its contract: it looks at the next word.
use mathlib.Core.Path.{sym, ◌∙◌}
use Rattle.text.proofs.Looks.{forked, look_exit, look_item}
use Rattle.text.proofs.passing.follow.Goals as goal

pub returns-in-Close : goal.returns-in-Close
returns-in-Close c = c.exit.ensures ∙ sym (look_exit (forked c.fork.ensures c.look.ensures) _ _ c.in-Close.is)

pub returns-in_default : goal.returns-in_default
returns-in_default c = sym (look_item (forked c.fork.ensures c.look.ensures) _ _ c.in_default.not-Close)
