-- `lines::says::field` meets its contract.
use mathlib.Core.Path.{ap, ◌∙◌}
use Rattle.lines.specs.Text.{number}
use Rattle.lines.proofs.LineLaws.{part}
use Rattle.lines.proofs.says.field.Goals as goal

pub returns : goal.returns
returns c =
    let s = c.inside.ensures in
    c.number_of.ensures ∙ ap number (part c.args.text.now c.inside.result.start c.inside.result.end s.0 ∙ s.1.1)
