-- `exports::line::Line::len` meets its contract: field after field.
use native.Mathlib.Omega.{arith}
use Rattle.exports.proofs.LineLaws.{line_long, line_short}
use Rattle.exports.proofs.line.Line.len.Goals as goal

pub returns : goal.returns
returns c =
    let a = c.args.self in
    let e = line_long a.place a.rate a.distortion in
    (omega arith, omega (arith, line_short a.place a.rate a.distortion a.few_digits))
