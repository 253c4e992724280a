-- `lines::field::inside` meets its contract.
use mathlib.Core.Path.{◌≡◌, sym, ap, ◌∙◌}
use native.Mathlib.Omega.{arith}
use lib.Seq.{slice, length-slice}
use Rattle.lines.specs.Text.{quoted}
use Rattle.lines.proofs.LineLaws.{part}
use Rattle.lines.proofs.ContentLaws.{quoted_long, content_quoted, content_plain}
use Rattle.lines.proofs.field.inside.Goals as goal
use Rattle.lines.proofs.field.inside.Goals.{After-is_quoted}

-- what was looked at is the field
of_field : (c : After-is_quoted) → quoted (slice c.args.from c.args.to c.args.text.now) ≡ c.is_quoted.result
of_field c = sym (c.is_quoted.ensures ∙ ap quoted (part c.args.text.now c.args.from c.args.to c.requires.0))

pub returns-then-is_quoted : goal.returns-then-is_quoted
returns-then-is_quoted c =
    let a = c.args in
    let e = of_field (goal.at.returns-then-is_quoted c).After-is_quoted ∙ c.if-is_quoted.true in
    let l = length-slice a.from a.to a.text.now c.requires.1 in
    (omega (arith, quoted_long (slice a.from a.to a.text.now) e, l), (omega arith, content_quoted a.from a.to a.text.now c.requires.1 e))

pub returns : goal.returns
returns c = (c.requires.0, (omega arith, content_plain _ (of_field (goal.at.returns c).After-is_quoted ∙ c.if-is_quoted.false)))
