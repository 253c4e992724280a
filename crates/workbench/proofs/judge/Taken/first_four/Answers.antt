-- `workbench::judge::Taken::first_four` meets its contract: numbers that passed the checks 1 to 3 are in their ranges.
use Rattle.std.proofs.Common.{sym}
use Rattle.tables.specs.Limits.{most_scans}
use Rattle.checks.proofs.PlanningLaws.{in_ranges}
use Rattle.workbench.proofs.judge.Taken.first_four.Goals as goal

pub count-cells-requires : goal.count-cells-requires
count-cells-requires c =
    let r = in_ranges most_scans c.from-scans.result c.from-settings.result c.no_law.result (sym c.in_ok-ranges.ensures) in
    (r.0.0, (r.0.1, r.1.1))
