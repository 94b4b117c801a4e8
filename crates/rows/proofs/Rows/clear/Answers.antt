-- `Rows::clear` meets its contract.
use Rattle.rows.proofs.AllWords.{blank}
use Rattle.rows.proofs.Rows.clear.Goals as goal

pub returns : goal.returns
returns g c = blank _ (c.fill.ensures.after (λ y e. e))
