-- `plain::plain::previous` meets its contract: an empty field at scan 0 and only there.
use mathlib.Core.Path.{sym, ◌∙◌}
use borrow.Author.Tests.{eqb-true}
use Rattle.std.proofs.lemmas.Option.{IfSome_then}
use Rattle.plain.proofs.PlainLaws.{previous_numbered, previous_empty}
use Rattle.plain.proofs.plain.previous.Goals as goal

pub returns-then-scan-ne0 : goal.returns-then-scan-ne0
returns-then-scan-ne0 c = IfSome_then c.field.result c.field.ensures (λ d f. previous_numbered c.if-scan-ne0.true f)

pub returns-then-comma_at : goal.returns-then-comma_at
returns-then-comma_at c = previous_empty c.requires c.if-scan-ne0.false (eqb-true _ 44 (sym c.comma_at.ensures ∙ c.if-comma_at.true))
