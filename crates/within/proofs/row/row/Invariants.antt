-- `within::row::row` meets its contract. The loop's invariant: the row is made of what the settings before q offer.
use Rattle.within.specs.Rows.{row_offer, RowMade}
use Rattle.within.proofs.row.row.Given as goal

abbrev pub invariant-loop-q : goal.invariant-loop-q
invariant-loop-q l =
    RowMade (row_offer l.cells.weight l.cells.from l.width l.place.ahead l.cells.rates.now l.cells.distortions.now l.initial.totals)
    l.width l.fn.over.start l.q l.place.here l.place.at l.initial.totals l.initial.choices l.totals l.choices
