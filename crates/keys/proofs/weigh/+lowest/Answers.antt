-- `keys::weigh::lowest` meets its contract, by the step from the remainder.
use native.Mathlib.Omega.{arith}
use Rattle.keys.proofs.BesideLaws.{sizes, next}
use Rattle.keys.proofs.weigh.+lowest.Goals as goal

pub overflow_mul-whole : goal.overflow_mul-whole
overflow_mul-whole t c = omega (arith, sizes c.args.at.d (omega arith) c.lowest-t.ensures)

pub overflow_add-whole : goal.overflow_add-whole
overflow_add-whole t c = omega (arith, sizes c.args.at.d (omega arith) c.lowest-t.ensures)

pub overflow_add-result : goal.overflow_add-result
overflow_add-result t c = omega (arith, sizes c.args.at.d (omega arith) c.lowest-t.ensures)

pub overflow_sub-result-else-at-eq0 : goal.overflow_sub-result-else-at-eq0
overflow_sub-result-else-at-eq0 t c = (sizes c.args.at.d (omega arith) c.lowest-t.ensures).left

pub returns-else-at-eq0 : goal.returns-else-at-eq0
returns-else-at-eq0 t c = next c.args.at.d (omega arith) c.lowest-t.ensures
