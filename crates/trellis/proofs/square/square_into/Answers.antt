-- `trellis::square::square_into` meets its contract: every row passed is the table's, closed, and so is what counts.
use Rattle.std.proofs.Common.{refl, ℕ, ◌+◌, ◌*◌, ◌<◌, arith}
use Rattle.trellis.specs.Square.{closed_cell, counted_cell}
use Rattle.trellis.proofs.ClosedLaws.{row_fits}
use Rattle.trellis.proofs.SquareLaws.{sixteen_more, rows_more}
use Rattle.trellis.proofs.square.square_into.Goals as goal

pub row_into-requires : goal.row_into-requires
row_into-requires c = record { fits = (c.requires.fits.0, row_fits c.requires.fits.1 c.loop-p-test.true refl) }

pub loop-p-preserved : goal.loop-p-preserved
loop-p-preserved c =
    let a = c.args in
    let t = a.cells.now in
    let l = c.loop-p in
    let i = l.invariant in
    let w = c.row_into in
    let h : l.p < 16 = omega (arith, c.requires.fits.0, c.loop-p-test.true) in
    let x : ℕ → ℕ → ℕ = λ r q. closed_cell a.ceiling t.rates.now t.distortions.now (t.from + r * a.k + q) in
    let y : ℕ → ℕ → ℕ = λ r q. counted_cell t.weight a.ceiling t.rates.now t.distortions.now (t.from + r * a.k + q) in
    record {
      sixteen = (sixteen_more l.square l.p w.new.row i.sixteen.0 h w.ensures.long.0, sixteen_more l.counts l.p w.new.counts i.sixteen.1 h w.ensures.long.1);
      rates = rows_more l.square l.p w.new.row i.sixteen.0 h a.k x w.ensures.rates i.rates;
      counts = rows_more l.counts l.p w.new.counts i.sixteen.1 h a.k y w.ensures.counts i.counts;
    }
