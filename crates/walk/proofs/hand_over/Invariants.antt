-- `walk::hand_over` meets its contract. The loop's invariant: the bytes of the plan before this scan's are those of the sequence,
-- the others as they were, and the choices from this scan on lead to the rest of it.
use mathlib.Core.Path.{◌≡◌}
use mathlib.Core.List.{◌++◌}
use Prim.Native.Nat.{◌-◌, ◌≤◌, ◌<◌}
use lib.ListN.{length, take, drop}
use Rattle.trellis.specs.Choices.{choice, walk, chosen}
use Rattle.walk.proofs.hand_over.Given as goal

abbrev pub invariant-loop-scan : goal.invariant-loop-scan
invariant-loop-scan l = (l.scan ≤ l.scans) × (length l.plan ≡ length l.initial.plan) × (l.plan ≡ take l.scan (chosen l.settings l.scans l.scratch) ++ drop l.scan l.initial.plan) ×
    (l.scan < l.scans → l.p < l.settings) × (drop l.scan (chosen l.settings l.scans l.scratch) ≡ walk (choice l.settings l.scratch) (l.scans - l.scan) l.scan l.p)

abbrev pub decreases-loop-scan : goal.decreases-loop-scan
decreases-loop-scan l = l.scans - l.scan
