-- `checks::lent::Tables::front` meets its contract: the stages in their order.
use mathlib.Core.Path.{sym}
use native.Mathlib.Omega.{arith}
use Rattle.checks.proofs.PlanningLaws.{in_ranges}
use Rattle.checks.proofs.lent.Tables.front.Goals as goal

pub count-cells-requires : goal.count-cells-requires
count-cells-requires c =
    let a = c.args in
    let r = in_ranges a.most a.self.now.scans a.self.now.settings a.lawless (sym c.in_ok-ranges.ensures) in
    (r.0.0, (omega (arith, r.0.1, c.requires), r.1.1))
