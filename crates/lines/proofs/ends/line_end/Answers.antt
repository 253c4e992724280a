-- `lines::ends::line_end` meets its contract: every byte before i belongs to the line.
use native.Mathlib.Numerals.{add-one}
use mathlib.Core.Path.{sym, ◌∙◌}
use Rattle.lines.proofs.LineLaws.{line_goes_on}
use Rattle.lines.proofs.ends.line_end.Goals as goal

pub loop-i-preserved : goal.loop-i-preserved
loop-i-preserved c = rw add-one (line_goes_on c.loop-i.invariant c.loop-i-test.true (sym c.ends_at.ensures ∙ c.if-ends_at.false))
