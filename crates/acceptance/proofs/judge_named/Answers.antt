-- `acceptance::judge_named` meets its contract.
use mathlib.Core.Path.{ap, ◌∙◌}
use Prim.Native.Nat.{ℕ, ◌≤◌}
use native.Mathlib.Omega.{arith}
use lib.ListN.{length}
use Rattle.acceptance.specs.Accept.{map_length, drawn}
use Rattle.acceptance.proofs.Drawing.{zeros, drawn_map}
use Rattle.acceptance.proofs.Accepting.{named_line}
use Rattle.acceptance.proofs.judge_named.Goals as goal
use Rattle.acceptance.proofs.judge_named.Goals.{After-map_length-length}

-- the map has room for what its length says
long : (l : After-map_length-length) → l.map_length-length.result ≤ length l.draw.new.map
long l = omega (arith, l.map_length-length.ensures.1, l.draw.auto)

pub draw-requires : goal.draw-requires
draw-requires c = (omega arith, zeros 256)

pub returns : goal.returns
returns c =
    let bytes = c.args.bytes.now in
    let nodes = c.args.nodes.now in
    let size = c.map_length-length.ensures.0 ∙ ap (λ (n : ℕ). map_length n nodes) c.byte_at.ensures.0 in
    let map = drawn_map nodes _ _ (long (goal.at.returns c).After-map_length-length) c.draw.ensures ∙ ap (drawn nodes 0) size in
    let says = named_line c.args.question bytes nodes _ _ _ c.judge_patch-answer.result map (omega arith) c.judge_patch-answer.ensures in
    record { line = _; says = says; lined = c.told.ensures.lined }
