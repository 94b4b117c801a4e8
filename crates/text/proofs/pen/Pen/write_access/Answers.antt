-- An access is written: the next word says its location.
use mathlib.Core.Path.{refl}
use Rattle.text.specs.Inner.Records.{alone}
use Rattle.text.specs.Inner.Pen.{nodes_at, after}
use Rattle.text.proofs.Looks.{forked, look_location, look_located}
use Rattle.text.proofs.Wrote.{nodes_written}
use Rattle.text.proofs.pen.Pen.write_access.Goals as goal

pub returns : goal.returns
unfolding nodes_at after
returns c =
    let look = forked c.fork-on.ensures c.look.ensures in
    nodes_written refl {L = alone c.args.self.now.parts _ c.location-place.result c.follow-leads.result}
    (rw (look_location look, look_located look, c.location-place.ensures, c.follow-leads.ensures, look.text)) c.put_single.ensures
