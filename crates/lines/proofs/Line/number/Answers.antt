-- `lines::Line::number` meets its contract.
use mathlib.Core.Path.{◌≡◌, sym, subst, ◌∙◌}
use mathlib.Core.List.{List}
use Prim.Native.Nat.{ℕ}
use lib.ListN.{take}
use Rattle.lines.specs.Text.{decimal}
use Rattle.lines.specs.Inner.Growing.{HasRoom, Grows}
use Rattle.lines.proofs.Decimal.{written}
use Rattle.lines.proofs.Line.number.Goals as goal
use Rattle.lines.proofs.Line.number.Goals.{After-decimal-k}

-- what `io::decimal` wrote is the number
spelled : (m : After-decimal-k) → take m.decimal-k.result m.decimal-k.new.out ≡ decimal m.args.n
spelled m = m.decimal-k.ensures.digits ∙ written _ _ m.ranges.n.fits m.decimal-k.ensures.len

pub words-requires : goal.words-requires
words-requires c = subst (HasRoom c.args.self.now) (sym (spelled (goal.at.words-requires c).After-decimal-k)) c.requires

pub returns : goal.returns
returns c = subst (λ (t : List ℕ). Grows c.args.self.now t c.words.new.self) (spelled (goal.at.returns c).After-decimal-k) c.words.ensures
