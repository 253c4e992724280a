-- `exports::line::Line::put` meets its contract: field after field, CR and LF.
use native.Mathlib.Omega.{arith}
use lib.ListN.{length-set}
use Rattle.exports.proofs.LineLaws.{line_long}
use Rattle.exports.specs.Export.{decimal, previous_field}
use Rattle.laws.proofs.PutLaws.{next}
use Rattle.exports.proofs.PutLaws.{field_put, line_put}
use Rattle.exports.proofs.line.Line.put.Goals as goal

pub bounds-out-end-2 : goal.bounds-out-end-2
bounds-out-end-2 c = let a = c.args.self in simp length-set (omega (arith, line_long a.place a.rate a.distortion))

pub returns : goal.returns
returns c =
    let a = c.args.self in
    let q = a.place in
    let one = next (field_put (decimal q.scan) c.put_field-second.ensures) (field_put (previous_field q) c.put_previous-third.ensures) in
    let three = next (next one (field_put (decimal q.setting) c.put_field-fourth.ensures)) (field_put (decimal a.rate) c.put_field-fifth.ensures) in
    line_put q a.rate a.distortion (next three (record { so = c.put_digits-end.ensures.1; end = c.put_digits-end.ensures.0 }))
