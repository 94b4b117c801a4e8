-- `acceptance::accept` meets its contract.
use mathlib.Core.Path.{◌≡◌, ◌∙◌}
use Prim.Native.Nat.{◌+◌, min}
use native.Mathlib.Omega.{arith}
use lib.ListN.{length}
use Rattle.listing.specs.Bytes.{byte}
use Rattle.say.proofs.Lining.{line_counts}
use Rattle.acceptance.proofs.Accepting.{accept_line}
use Rattle.acceptance.proofs.accept.Goals as goal

pub returns : goal.returns
returns c =
    let input = c.args.input.now in
    let from = c.min-from in
    let a : from.result ≡ min 2 (length input) = omega (arith, from.ensures) in
    let b : c.min-to.result ≡ min (from.result + byte input 1) (length input) = omega (arith, c.min-to.ensures, c.byte_at.ensures.0) in
    let first = c.in-Some.ensures.item.3 in
    let of = accept_line input c.from.result from.result c.min-to.result in
    let line = of (λ e. omega (arith, first.0, e)) (c.from.ensures ∙ first.1 0) a b c.judge_named.ensures in
    record { accept_line_promise = line; prefix_len = line_counts {line = c.judge_named.ensures.line} c.judge_named.ensures.lined }
