-- `search::slopes::slopes` meets its contract: the bracket narrows until a plan ties. The measure is its width in rate.
use Prim.Native.Nat.{◌-◌}
use Rattle.tables.specs.Tables.{scratch_need}
use Rattle.checks.specs.Given.{planning_in}
use Rattle.seek.specs.Sought.{Framed}
use Rattle.search.specs.Search.{Bracketed}
use Rattle.search.proofs.slopes.slopes.Given as goal

abbrev pub invariant-loop-at : goal.invariant-loop-at
invariant-loop-at l = Bracketed (planning_in l.t) l.budget l.at.lo l.at.hi × Framed (scratch_need l.t.scans l.t.settings) l.initial.scratch l.scratch

abbrev pub decreases-loop-at : goal.decreases-loop-at
decreases-loop-at l = l.at.hi.rate.0 - l.at.lo.rate.0
