-- `printing::put::Text::put_minmax` meets its contract: part behind part.
use Rattle.printing.proofs.PutsLaws.{behind}
use Rattle.printing.proofs.put.Text.put_minmax.Goals as goal

pub returns-clause-put : goal.returns-clause-put
returns-clause-put c = behind (behind c.put_spaced.ensures c.put_sums.ensures.put) c.put_planned.ensures.put
