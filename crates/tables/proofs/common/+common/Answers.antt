-- `tables::common::common` meets its contract, by the remainder rule.
use mathlib.Core.Path.{sym, ◌∙◌}
use native.Mathlib.Omega.{arith}
use Rattle.criteria.proofs.Fraction.{gcd_rule}
use Rattle.tables.proofs.common.+common.Goals as goal

pub returns-else-b-eq0 : goal.returns-else-b-eq0
returns-else-b-eq0 t c = c.common.ensures ∙ sym (gcd_rule c.args.a c.args.b (omega arith))
