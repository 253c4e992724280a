-- `printing::put::Text::put_planned` meets its contract: the word, and the settings behind it.
use Rattle.printing.proofs.PutsLaws.{behind}
use Rattle.printing.proofs.put.Text.put_planned.Goals as goal

pub returns-clause-put : goal.returns-clause-put
returns-clause-put c = behind c.put.ensures c.put_settings.ensures.put
