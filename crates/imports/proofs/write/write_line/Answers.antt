-- `imports::write::write_line` meets its contract.
use mathlib.Core.Path.{ap}
use native.Mathlib.Omega.{arith}
use Rattle.lines.specs.Parts.{said}
use Rattle.imports.proofs.JudgeLaws.{InRange}
use Rattle.imports.proofs.WriteLaws.{good_in_range}
use Rattle.imports.proofs.write.write_line.Goals as goal
use Rattle.imports.proofs.write.write_line.Goals.{In-Some}

-- the numbers are in range
inside : (c : In-Some) → InRange c.args.size.scans c.args.size.settings c.in-Some.e
inside c = let f = c.requires.faultless in good_in_range f.0 f.1.0 (said c.args.line) (ap said c.in-Some.is) f.1.1

pub overflow_cast-rates : goal.overflow_cast-rates
overflow_cast-rates c = omega (arith, (inside (goal.at.overflow_cast-rates c).In-Some).rate)

pub overflow_cast-distortions : goal.overflow_cast-distortions
overflow_cast-distortions c = omega (arith, (inside (goal.at.overflow_cast-distortions c).In-Some).distortion)
