-- `exports::digits::width` meets its contract: one digit, or by the powers of ten beside the number.
use mathlib.Core.Path.{sym}
use native.Mathlib.Omega.{arith}
use Rattle.exports.proofs.DecimalLaws.{width_one, width_is, width_most}
use Rattle.exports.proofs.digits.width.Goals as goal

pub returns-then-x-lt10 : goal.returns-then-x-lt10
returns-then-x-lt10 c = (sym (width_one c.args.x c.if-x-lt10.true), omega arith)

pub returns : goal.returns
returns c =
    let l = c.ilog10.ensures in
    let e = width_is c.ilog10.result c.args.x (omega arith) (omega arith) in
    (sym e, omega (arith, e, width_most 6 c.args.x (omega arith)))
