-- `lines::ends::line_end` meets its contract: every byte before i belongs to the line.
use Rattle.lines.proofs.LineLaws.{LineSoFar}
use Rattle.lines.proofs.ends.line_end.Given as goal

abbrev pub invariant-loop-i : goal.invariant-loop-i
invariant-loop-i l = LineSoFar l.text l.from l.i
