-- `lines::Line::words` meets its contract.
use mathlib.Core.Path.{refl, ap, ◌∙◌}
use mathlib.Core.List.{List}
use Prim.Native.Nat.{ℕ, ◌-◌}
use borrow.Rule.Slice.PartMut.{put_mid}
use lib.ListN.{length}
use lib.Seq.{length-sets}
use Rattle.lines.proofs.Putting.{in_place}
use Rattle.lines.proofs.Line.words.Goals as goal

pub returns : goal.returns
returns c =
    let l = c.args.self.now.buffer.now in
    let at = c.args.self.now.end in
    let text = c.args.text.now in
    let stored = ap (λ (part : List ℕ). put_mid at (length l - at) l part) c.copy.ensures ∙ in_place l text at c.requires in
    record { same = refl; size = ap length stored ∙ length-sets l at text; put = record { stored = stored; goes_on = refl } }
