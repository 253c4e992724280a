-- `reading::number` meets its contract: over the limit, no room, taken.
use native.Mathlib.Omega.{arith}
use Rattle.reading.proofs.FeedLaws.{closes_over, closes_full, closes_number}
use Rattle.reading.proofs.number.Goals as goal

pub returns-in_default-clause-closes : goal.returns-in_default-clause-closes
returns-in_default-clause-closes c = rw c.refused.ensures (closes_over c.requires (omega (arith, c.in_default.ensures)))

pub returns-then-numbers-at-clause-closes : goal.returns-then-numbers-at-clause-closes
returns-then-numbers-at-clause-closes c = rw c.refused-then-numbers-at.ensures (closes_full c.requires c.if-numbers-at.true)

pub returns-clause-closes : goal.returns-clause-closes
returns-clause-closes c = let h = c.in-Ok.ensures in rw h.1 (closes_number c.requires (omega arith) c.if-numbers-at.false)
