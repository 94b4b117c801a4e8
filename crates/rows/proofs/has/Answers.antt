-- `rows::has` meets its contract.
use Rattle.rows.proofs.OneBit.{tells_has}
use Rattle.rows.proofs.has.Goals as goal

pub returns : goal.returns
returns c = tells_has c.args.w.now c.args.a c.args.b
