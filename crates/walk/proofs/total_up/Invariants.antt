-- `walk::total_up` meets its contract. The loop's invariant: t has the scans before i, and the choices from scan i on lead to the
-- rest of the sequence.
use Prim.Native.Nat.{◌-◌, ◌≤◌, ◌<◌}
use Rattle.tables.specs.Tables.{series}
use Rattle.checks.specs.Given.{table_in}
use Rattle.trellis.specs.Choices.{choice, walk, chosen}
use Rattle.walk.proofs.WalkLaws.{Along}
use Rattle.walk.proofs.total_up.Given as goal

abbrev pub invariant-loop-i : goal.invariant-loop-i
invariant-loop-i l = (l.i ≤ l.t.scans) × (l.p < l.t.settings) ×
    Along (series (table_in l.t)) (chosen l.t.settings l.t.scans l.scratch) l.sums l.i l.p
    (walk (choice l.t.settings l.scratch) (l.t.scans - l.i) l.i l.p)

abbrev pub decreases-loop-i : goal.decreases-loop-i
decreases-loop-i l = l.t.scans - l.i
