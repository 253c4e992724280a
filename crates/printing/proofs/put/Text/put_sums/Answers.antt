-- `printing::put::Text::put_sums` meets its contract: the rate, and the distortion behind it.
use Rattle.printing.proofs.PutsLaws.{behind}
use Rattle.printing.proofs.put.Text.put_sums.Goals as goal

pub returns-clause-put : goal.returns-clause-put
returns-clause-put c = behind c.put_named.ensures.put c.put_named-2.ensures.put
