-- `exports::line::put_previous` meets its contract: a comma alone at scan 0.
use mathlib.Core.Path.{refl, ap}
use native.Mathlib.Omega.{arith}
use lib.ListN.{length}
use Rattle.exports.proofs.LineLaws.{previous_none, previous_some}
use Rattle.exports.proofs.line.put_previous.Goals as goal

pub returns-then-p-eq0 : goal.returns-then-p-eq0
returns-then-p-eq0 c =
    let a = c.args in
    rw (previous_none a.p c.if-p-eq0.true) (omega arith, refl)

pub put_field-requires : goal.put_field-requires
put_field-requires c =
    omega (arith, c.requires, ap length (previous_some c.args.p c.if-p-eq0.false))

pub returns : goal.returns
returns c =
    rw (previous_some c.args.p c.if-p-eq0.false) c.put_field.ensures
