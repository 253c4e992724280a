-- `keys::weigh::weigh` meets its contract: one law, at the place where the two branches meet.
use native.Mathlib.Omega.{arith}
use Rattle.keys.proofs.BesideLaws.{near_up, weighed_by, by_d, by_n}
use Rattle.keys.proofs.weigh.weigh.Goals as goal
use Rattle.keys.proofs.weigh.weigh.Goals.{then-t, else-t}

pub steps-s-requires-else-t : goal.steps-s-requires-else-t
steps-s-requires-else-t c = omega (arith, near_up c.lowest-t.ensures)

pub returns : goal.returns
returns c = weighed_by (omega arith) (omega arith) (omega arith) c.lowest-t.ensures (elim c.if-t.branch [
  | then-t w ↦ by_d w.if-t.true (rw w.s-is w.steps-s.ensures)
  | else-t w ↦ by_n w.if-t.false (rw w.s-is w.steps-s-else-t.ensures)
])
