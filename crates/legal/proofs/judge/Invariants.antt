-- `legal::judge` meets its contract: every cell before the scan that comes is legal, and the run that comes is that scan's.
use mathlib.Core.Path.{◌≡◌}
use Prim.Native.Nat.{suc}
use Rattle.tables.specs.Legal.{weights_by_scan}
use Rattle.tables.specs.Tables.{scan_start}
use Rattle.legal.specs.Judged.{LegalRun}
use Rattle.legal.proofs.judge.Given as goal

abbrev pub invariant-loop-weight : goal.invariant-loop-weight
invariant-loop-weight l = (l.from ≡ scan_start l.settings l.weight-index) × ((l.to ≡ scan_start l.settings (suc l.weight-index)) ×
    LegalRun (weights_by_scan l.settings l.weights) l.rates l.distortions 0 l.from)
