-- `filing::mark` meets its contract: every weight that was passed is 1.
use mathlib.Core.Path.{◌≡◌}
use lib.ListN.{drop}
use Rattle.filing.specs.Filing.{mark_of}
use Rattle.filing.proofs.mark.Given as goal

abbrev pub invariant-loop-weight : goal.invariant-loop-weight
invariant-loop-weight l = mark_of l.weights ≡ mark_of (drop l.weight-index l.weights)
