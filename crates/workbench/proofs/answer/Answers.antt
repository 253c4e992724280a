-- `workbench::answer` meets its contract: what was put stands in the buffer.
use Rattle.std.proofs.Common.{rules}
use Rattle.workbench.proofs.LineLaws.{answers}
use Rattle.workbench.proofs.answer.Goals as goal

pub returns : goal.returns
returns c = answers c.feed-ended.ensures.feeds c.put_answer.ensures (search rules)
