-- `imports::judge::judge` meets its contract: what is found in the lines that are left is what is found in all.
use Rattle.imports.specs.Left.{said_left}
use Rattle.imports.proofs.JudgeLaws.{JudgedSoFar}
use Rattle.imports.proofs.judge.judge.Given as goal

abbrev pub invariant-loop-line : goal.invariant-loop-line
invariant-loop-line l =
    (goal.iterator-loop-line).can_next l.line-iterator × ((goal.iterator-loop-line).is_finite l.line-iterator
    × JudgedSoFar l.size.scans l.size.settings l.text l.initial.scratch l.scratch l.k (said_left l.line-iterator))
