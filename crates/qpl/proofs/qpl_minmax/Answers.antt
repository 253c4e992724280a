-- `qpl::qpl_minmax` meets its contract: the call below over the room that is lent, and what it answers told.
use mathlib.Core.Path.{ap}
use native.Mathlib.Omega.{arith}
use lib.ListN.{length}
use Rattle.promise.specs.Promise.{minmax_reply}
use Rattle.qpl.proofs.LentLaws.{planning_tellable, planning_tells}
use Rattle.qpl.proofs.qpl_minmax.Goals as goal

pub tell-requires : goal.tell-requires
tell-requires c =
    let a = c.args in (
      omega arith,
      planning_tellable minmax_reply _ 32 a.answer.now a.plan.now c.lent-room.ensures c.minmax_plan-told.ensures c.minmax_answer.ensures
          tt (λ t v q. omega (arith, ap length q.values)),
    )

pub returns : goal.returns
returns c =
    let a = c.args in
    planning_tells minmax_reply _ 32 a.answer.now a.plan.now c.lent-room.ensures c.minmax_plan-told.ensures c.minmax_answer.ensures c.tell.ensures
