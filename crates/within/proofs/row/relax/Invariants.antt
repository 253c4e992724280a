-- `within::row::relax` meets its contract. The loop's invariant: the first j places are taken where the setting offers less.
use Rattle.std.proofs.Common.{◌+◌, get_or}
use Rattle.within.specs.Rows.{Taken}
use Rattle.within.proofs.row.relax.Given as goal

abbrev pub invariant-loop-j : goal.invariant-loop-j
invariant-loop-j l = Taken (λ k. l.distortion + get_or l.initial.totals (l.place.ahead + k) 0) l.setting l.j l.place.here l.place.at l.initial.totals l.initial.choices l.totals l.choices
