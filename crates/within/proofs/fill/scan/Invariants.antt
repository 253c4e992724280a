-- `within::fill::scan` meets its contract. The loop's invariant: the rows of the settings before p are made.
use Rattle.std.proofs.Common.{◌+◌, ◌*◌}
use Rattle.tables.specs.Law.{law_of}
use Rattle.within.specs.Rows.{row_offer}
use Rattle.within.specs.Filled.{Scanned}
use Rattle.within.proofs.fill.scan.Given as goal

abbrev pub invariant-loop-p : goal.invariant-loop-p
invariant-loop-p l =
    Scanned (law_of l.t.law) (λ r. row_offer l.cells.weight (l.cells.from + r * l.t.settings) l.width l.place.ahead l.cells.rates.now l.cells.distortions.now l.initial.totals)
    l.t.settings l.width l.p l.place.here l.place.at l.initial.totals l.initial.choices l.totals l.choices
