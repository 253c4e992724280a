-- `shown::lent::put_lent` is safe: a run starts at a cell that has been seen, or at the first.
use Rattle.std.proofs.Common.{◌≤◌}
use Rattle.shown.proofs.lent.put_lent.Given as goal

abbrev pub invariant-loop-i : goal.invariant-loop-i
invariant-loop-i g l = l.start ≤ l.i
