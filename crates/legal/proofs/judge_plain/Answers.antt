-- `legal::judge_plain` meets its contract: all cells are one run.
use Rattle.tables.specs.Legal.{no_weights}
use Rattle.legal.proofs.RunLaws.{whole_run}
use Rattle.legal.proofs.judge_plain.Goals as goal

pub returns : goal.returns
returns c = whole_run no_weights _ _ c.judge_run.ensures
