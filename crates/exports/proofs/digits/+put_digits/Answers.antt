-- `exports::digits::put_digits` meets its contract: one digit, or the last behind those of a tenth of it.
use native.Mathlib.Omega.{arith}
use Rattle.exports.proofs.DecimalLaws.{width_one, width_more}
use Rattle.exports.proofs.PutLaws.{put_one, put_last}
use Rattle.exports.proofs.digits.+put_digits.Goals as goal

pub returns-then-x-lt10 : goal.returns-then-x-lt10
returns-then-x-lt10 t c =
    let a = c.args in
    (omega (arith, width_one a.x (omega arith)), put_one a.out.now a.at a.x (omega arith))

pub returns : goal.returns
returns t c =
    let a = c.args in
    let p = c.put_digits-last in
    (omega (arith, width_more a.x (omega arith), p.ensures.0), put_last a.out.now a.at p.result a.x (omega arith) p.ensures.0 p.ensures.1)
