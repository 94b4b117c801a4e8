-- What the search leaves of `print::refusal`.
use Rattle.std.proofs.Common.{rules, subst}
use Rattle.std.proofs.lemmas.Result.{on_ok_weaker}
use Rattle.std.specs.Io.KnownBytes.{Appends}
use Rattle.say.specs.Lines.{refusal_words}
use Rattle.print.proofs.Putting.{put_front}
use Rattle.print.proofs.refusal.Goals as goal

pub returns : goal.returns
returns g c =
    let words = refusal_words c.args.number c.args.place in
    on_ok_weaker c.line.result
    (λ w. subst (Appends _ _) (put_front w.lent.now w.line.now words w.count (search rules) (search rules) (search rules)) w.written)
    c.line.ensures
