-- `within::fill::fill` meets its contract. The loop's invariant: the scans from i on are done.
use Rattle.std.proofs.Common.{◌-◌}
use Rattle.checks.specs.Given.{table_in}
use Rattle.within.proofs.FillLaws.{Done}
use Rattle.within.proofs.fill.fill.Given as goal

abbrev pub invariant-loop-i : goal.invariant-loop-i
invariant-loop-i l = Done (table_in l.t) l.width (l.i - 1) l.here l.ahead l.initial.totals l.initial.choices l.totals l.choices
