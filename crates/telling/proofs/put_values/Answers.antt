-- `telling::put_values` meets its contract: value behind value.
use Rattle.telling.proofs.AnswerLaws.{value_more}
use Rattle.telling.proofs.put_values.Goals as goal

pub loop-i-preserved : goal.loop-i-preserved
loop-i-preserved c = value_more c.args.answer.now c.args.values.now c.loop-i.i c.loop-i-test.true c.loop-i.invariant c.put_number.ensures
