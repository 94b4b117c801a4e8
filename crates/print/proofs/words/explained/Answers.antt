-- What the search leaves of `print::words::explained`.
use Rattle.std.proofs.Common.{arith, subst, ◌≡◌, []}
use Rattle.std.proofs.lemmas.Grind.{common_steps}
use Rattle.std.proofs.lemmas.Result.{on_ok_weaker}
use Rattle.std.proofs.KnownBytes.{Appends-nil, Appends-trans}
use Rattle.std.specs.Io.KnownBytes.{Appends}
use Rattle.listing.specs.Reason as reasons
use Rattle.print.specs.Inner.Writing.{place_words}
use Rattle.print.proofs.words.explained.Goals as goal
use Rattle.print.proofs.words.explained.Goals.{then-number+in_ok-place_of, else-number}

pub returns : goal.returns
returns g c =
    let held = g.W.Write.contents in
    let reason = c.reason_of-reason.result in
    let k = c.args.number in
    let p = c.args.place in
    let said = c.in_ok-meaning.ensures in
    let place : Appends (held c.meaning.new.to) (held c.if-number.to) (place_words k p) =
    elim c.if-number.branch [
      | then-number+in_ok-place_of w ↦
          let same : place_words (reasons.number reason) (reasons.place reason) ≡ place_words k p = grind (arith, common_steps) in
          rw w.to-is (subst (Appends _ _) same w.in_ok-place_of.ensures)
      | else-number w ↦
          let none : [] ≡ place_words k p = grind (arith, common_steps) in
          rw w.to-is (subst (Appends _ _) none (Appends-nil _))
    ]
    in
    on_ok_weaker c.text-2.result
    (λ last. record {
      meaning = said.0;
      written =
          Appends-trans _ _ _ _ _ c.in_ok-refusal.ensures
          (Appends-trans _ _ _ _ _ c.in_ok-text.ensures (Appends-trans _ _ _ _ _ said.1 (Appends-trans _ _ _ _ _ place last)));
    })
    c.text-2.ensures
