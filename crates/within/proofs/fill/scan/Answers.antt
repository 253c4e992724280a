-- `within::fill::scan` meets its contract. The loop's invariant: the rows of the settings before p are made.
use Rattle.std.proofs.Common.{◌+◌, ◌*◌, get_or, arith}
use Rattle.within.specs.Rows.{row_offer}
use Rattle.within.proofs.RowLaws.{offer_same}
use Rattle.within.proofs.ScanLaws.{scan_more, offers_same, row_cells}
use Rattle.within.proofs.fill.scan.Goals as goal

pub row-requires-clause-cells : goal.row-requires-clause-cells
row-requires-clause-cells c = (c.requires.cells.0, row_cells c.loop-p.p c.run.result.end c.requires.cells.1 c.loop-p-test.true c.run.ensures.inside)

pub loop-p-preserved : goal.loop-p-preserved
loop-p-preserved c =
    let a = c.args in
    let t = a.cells.now in
    let l = c.loop-p in
    let from = t.from + l.p * a.t.now.settings in
    scan_more (row_offer t.weight from a.width a.place.ahead t.rates.now t.distortions.now l.totals) c.run.ensures
    (λ b q h g. offer_same (get_or t.rates.now (from + q) 0) (t.weight * get_or t.distortions.now (from + q) 0) b
    (λ k m. offers_same c.requires.fits.apart (omega arith) l.invariant.totals_rest q k g (omega arith)))
    (rw c.along.ensures at c.row.ensures) l.invariant
