-- `imports::write::write` meets its contract: what the lines that are left make of the tables is what all make of them.
use Rattle.imports.specs.Left.{said_left}
use Rattle.imports.proofs.WriteLaws.{WrittenSoFar}
use Rattle.imports.proofs.write.write.Given as goal

abbrev pub invariant-loop-line : goal.invariant-loop-line
invariant-loop-line l =
    (goal.iterator-loop-line).can_next l.line-iterator × ((goal.iterator-loop-line).is_finite l.line-iterator
    × WrittenSoFar l.size.scans l.size.settings l.text l.initial.rates l.initial.distortions l.rates l.distortions (said_left l.line-iterator))
