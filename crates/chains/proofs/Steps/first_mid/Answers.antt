-- `chains::Steps::first_mid` meets its contract.
use Rattle.std.proofs.Common.{rules}
use Rattle.rows.proofs.Giving.{found}
use Rattle.chains.specs.Inner.Descent.{Mid}
use Rattle.chains.proofs.Steps.first_mid.Goals as goal

pub returns : goal.returns
returns c =
    found {P = Mid c.args.self.now.m.now c.args.self.now.w.now c.args.s.now c.args.x} _ _ _ _ (λ z h p. p.0)
    (λ y q h m k. (m, search rules)) (λ y q h m k. (search rules, search rules)) _ _ _ _ c.members.ensures c.find.ensures.ran
