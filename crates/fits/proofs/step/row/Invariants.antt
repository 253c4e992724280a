-- `fits::step::row` meets its contract. The loop's invariant: the settings before q are taken.
use Rattle.fits.specs.Reach.{RowTaken}
use Rattle.fits.proofs.step.row.Given as goal

abbrev pub invariant-loop-q : goal.invariant-loop-q
invariant-loop-q l = RowTaken l.rates l.at l.before l.fn.span.start l.q l.initial.least l.least
