-- `least::row::least` meets its contract: the best so far, and the next run after it.
use Rattle.std.proofs.Common.{◌+◌, ◌*◌, ◌≤◌, get_or}
use Rattle.least.specs.Row.{BestOf}
use Rattle.least.proofs.row.least.Given as goal

abbrev pub invariant-loop-k : goal.invariant-loop-k
invariant-loop-k l = BestOf (λ j. get_or l.sums j 0) l.over.start (l.over.start + 4 * l.k) l.best.key.0 l.best.first

abbrev pub invariant-loop-q : goal.invariant-loop-q
invariant-loop-q l = (l.fn.over.start ≤ l.q) × BestOf (λ j. get_or l.sums j 0) l.fn.over.start l.q l.best.key.0 l.best.first
