-- `failing::prepare` meets its contract.
use Rattle.order.proofs.Entries.{asked_in}
use Rattle.failing.proofs.prepare.Goals as goal

pub returns : goal.returns
returns c =
    let ready = c.suspects.ensures.ready in
    record {
      pairs = ready.pairs;
      meetings = ready.meetings;
      prepared = record {
        whole = c.suspects.ensures.whole;
        asked = asked_in c.args.question;
        suspects = ready.suspects;
        exchanged = c.exchanged_rows.ensures;
      };
    }
