-- `checks::range::outside` meets its contract.
use Rattle.std.proofs.Common.{arith}
use Rattle.std.proofs.lemmas.Grind.{common_steps}
use Rattle.checks.specs.Checks.{zero_or_over}
use Rattle.checks.proofs.range.outside.Goals as goal

pub returns-then-x-eq0 : goal.returns-then-x-eq0
unfolding zero_or_over
returns-then-x-eq0 c = grind (arith, common_steps)

pub returns-else-x-eq0 : goal.returns-else-x-eq0
unfolding zero_or_over
returns-else-x-eq0 c = grind (arith, common_steps)
