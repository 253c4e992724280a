-- `fits::step::step` meets its contract. The loop's invariant: the rows before p are taken.
use Rattle.tables.specs.Law.{law_of, Follows}
use Rattle.fits.specs.Reach.{ScanTaken}
use Rattle.fits.proofs.step.step.Given as goal

abbrev pub invariant-loop-p : goal.invariant-loop-p
invariant-loop-p l = ScanTaken (Follows (law_of l.asked.law) l.scan) l.asked.rates.now l.settings l.at l.p l.least l.next
