-- `exports::line::previous_width` meets its contract.
use native.Mathlib.Omega.{arith}
use Rattle.exports.proofs.LineLaws.{previous_some, previous_short}
use Rattle.exports.proofs.line.previous_width.Goals as goal

pub returns-else-p-eq0 : goal.returns-else-p-eq0
returns-else-p-eq0 c =
    let e = previous_some c.args.p c.if-p-eq0.false in
    rw e (c.width.ensures.0, omega (arith, c.width.ensures.0, rw e at (previous_short c.args.p c.requires)))
