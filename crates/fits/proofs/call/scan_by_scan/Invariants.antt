-- `fits::call::scan_by_scan` meets its contract. The loop's invariant: what is known before a scan is read.
use Rattle.fits.specs.Given.{question_in}
use Rattle.fits.proofs.ReadLaws.{Before}
use Rattle.fits.proofs.call.scan_by_scan.Given as goal

abbrev pub invariant-loop-scan : goal.invariant-loop-scan
invariant-loop-scan l = Before (question_in l.asked) l.scan l.reached l.rows l.from l.least
