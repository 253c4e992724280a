-- `exports::line::put_field` meets its contract: the digits, and the comma behind them.
use mathlib.Core.List.{[], ◌∷◌}
use native.Mathlib.Omega.{arith}
use Rattle.exports.specs.Export.{decimal}
use Rattle.exports.proofs.PutLaws.{put_more}
use Rattle.exports.proofs.line.put_field.Goals as goal

pub returns : goal.returns
returns c =
    let a = c.args in
    let p = c.put_digits-comma in
    (omega (arith, p.ensures.0), put_more a.out.now (decimal a.x) (44 ∷ []) a.at p.result p.ensures.0 p.ensures.1)
