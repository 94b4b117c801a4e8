-- `typing::room` meets its contract.
use mathlib.Core.Path.{sym}
use Prim.Native.Nat.{ℕ, suc}
use lib.ListN.{length-replicate}
use Rattle.typing.specs.Output.{TEXT}
use Rattle.typing.proofs.room.Goals as goal

-- a list so long is not computed
pub returns : goal.returns
returns c = sym (length-replicate {0} {A = ℕ} (suc TEXT) 0)
