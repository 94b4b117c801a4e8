-- `Rows::pour` meets its contract.
use native.Mathlib.Omega.{arith}
use lib.Bits.{bit_or}
use Prim.Native.Nat.{max}
use Rattle.rows.proofs.Bit.{bit_or_lem}
use Rattle.rows.proofs.OneRow.{mixed}
use Rattle.rows.proofs.Rows.pour.Goals as goal

pub returns : goal.returns
returns g c = mixed bit_or max bit_or_lem (omega arith) (cc) (cc) c.store.ensures.stored
