-- `qpl::qpl_best` meets its contract: the call below over the room that is lent, and what it answers told.
use native.Mathlib.Omega.{arith}
use Rattle.qpl.proofs.LentLaws.{best_tellable, best_tells}
use Rattle.qpl.proofs.qpl_best.Goals as goal

pub tell-requires : goal.tell-requires
tell-requires c =
    let a = c.args in (
      omega arith,
      best_tellable _ a.answer.now a.plan.now c.lent-room.ensures c.best_plan-told.ensures c.plan_answer.ensures,
    )

pub returns : goal.returns
returns c =
    let a = c.args in
    best_tells _ a.answer.now a.plan.now c.lent-room.ensures c.best_plan-told.ensures c.plan_answer.ensures c.tell.ensures
