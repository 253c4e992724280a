-- `fits::step::step` meets its contract: one row more.
use Rattle.fits.proofs.RowLaws.{scan_more}
use Rattle.fits.proofs.step.step.Goals as goal

pub loop-p-preserved : goal.loop-p-preserved
loop-p-preserved c = scan_more _ _ _ _ _ c.following-span.ensures c.loop-p.invariant c.row.ensures
