-- `qpl::qpl_multiplier` meets its contract: the call below over the room that is lent, and what it answers told.
use mathlib.Core.Path.{ap}
use native.Mathlib.Omega.{arith}
use lib.ListN.{length}
use Rattle.tables.specs.declared.refusal.Refusal.TheVariants as refusal
use Rattle.checks.specs.Planning.{multiplier_out}
use Rattle.checks.proofs.GiveLaws.{gives_when}
use Rattle.promise.specs.Promise.{plan_reply}
use Rattle.lastly.proofs.CarryLaws.{Little}
use Rattle.qpl.proofs.LentLaws.{planning_tellable, planning_tells}
use Rattle.qpl.proofs.qpl_multiplier.Goals as goal

pub tell-requires : goal.tell-requires
tell-requires c =
    let a = c.args in (
      omega arith,
      planning_tellable plan_reply _ 24 a.answer.now a.plan.now c.lent-room.ensures c.multiplier_plan-told.ensures c.plan_answer.ensures
          (gives_when Little (multiplier_out a.n a.d) refusal.Multiplier (omega arith)) (λ t v q. omega (arith, ap length q.1)),
    )

pub returns : goal.returns
returns c =
    let a = c.args in
    planning_tells plan_reply _ 24 a.answer.now a.plan.now c.lent-room.ensures c.multiplier_plan-told.ensures c.plan_answer.ensures c.tell.ensures
