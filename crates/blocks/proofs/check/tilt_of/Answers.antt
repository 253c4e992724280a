-- `blocks::check::tilt_of` meets its contract: byte after byte, and the sum so far with each.
use native.Mathlib.Omega.{arith}
use Rattle.std.proofs.lemmas.List.Sums.{sum_by_more}
use Rattle.blocks.proofs.SumLaws.{tilt_more}
use Rattle.blocks.proofs.check.tilt_of.Goals as goal

pub loop-b-preserved : goal.loop-b-preserved
loop-b-preserved c =
    let s = c.args.body.now in
    let i = c.loop-b.b-index in
    let sum = sum_by_more (λ x. x) s i 0 c.loop-b-test.true in
    let tilt = tilt_more s i c.loop-b-test.true in
    (omega arith, omega arith, omega arith, omega arith)
