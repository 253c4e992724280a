-- `search::halving::least_ceiling` meets its contract: something fits under `least`, and nothing under what is below `low`.
use Prim.Native.Nat.{◌-◌, ◌≤◌}
use Rattle.checks.specs.Given.{planning_in}
use Rattle.search.proofs.HalvingLaws.{Halved}
use Rattle.search.proofs.halving.least_ceiling.Given as goal

abbrev pub invariant-loop-low : goal.invariant-loop-low
invariant-loop-low l = (l.least ≤ l.high) × Halved (planning_in l.t) l.t.scans l.t.settings l.budget l.low l.least l.initial.scratch l.scratch

abbrev pub decreases-loop-low : goal.decreases-loop-low
decreases-loop-low l = l.least - l.low
