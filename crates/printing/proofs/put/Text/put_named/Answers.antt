-- `printing::put::Text::put_named` meets its contract: a space, the word, and the number behind a space.
use Rattle.printing.proofs.PutsLaws.{behind}
use Rattle.printing.proofs.put.Text.put_named.Goals as goal

pub returns-clause-put : goal.returns-clause-put
returns-clause-put c = behind (behind c.put.ensures c.put-2.ensures) c.put_spaced.ensures
