-- `checks::check::plain_front` meets its contract: the stages in their order.
use mathlib.Core.Path.{sym}
use Rattle.tables.specs.Limits.{most_scans}
use Rattle.checks.proofs.PlanningLaws.{in_ranges}
use Rattle.checks.proofs.check.plain_front.Goals as goal

pub count-cells-requires : goal.count-cells-requires
count-cells-requires c =
    let a = c.args in
    let r = in_ranges most_scans a.scans a.settings a.lawless (sym c.in_ok-ranges.ensures) in
    (r.0.0, (r.0.1, r.1.1))
