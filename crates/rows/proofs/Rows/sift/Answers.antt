-- `Rows::sift` meets its contract.
use native.Mathlib.Omega.{arith}
use lib.Bits.{bit_and}
use Prim.Native.Nat.{min}
use Rattle.rows.proofs.Bit.{bit_and_lem}
use Rattle.rows.proofs.OneRow.{mixed}
use Rattle.rows.proofs.Rows.sift.Goals as goal

pub returns : goal.returns
returns g c = mixed bit_and min bit_and_lem (omega arith) (cc) (cc) c.store.ensures.stored
