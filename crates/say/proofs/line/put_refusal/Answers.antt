-- What the search leaves of `say::line::put_refusal`.
use mathlib.Core.Path.{subst}
use Prim.Native.Nat.{ℕ}
use Rattle.lines.specs.Inner.Growing.{Grows}
use Rattle.lines.proofs.Growing.{both_grow}
use Rattle.say.specs.Lines.{refusal_words}
use Rattle.say.proofs.line.put_refusal.Goals as goal

pub returns-clause-put : goal.returns-clause-put
returns-clause-put c =
    subst (λ (k : ℕ). Grows c.args.line.now (refusal_words k c.args.place) c.next-2.new.self) c.from.ensures
    (both_grow c.words.ensures (both_grow c.next.ensures c.next-2.ensures))
