-- `printing::put::Text::put_line` meets its contract: the first word, what the line says, and its end.
use Rattle.printing.specs.Lines.{line}
use Rattle.printing.proofs.PutsLaws.{behind}
use Rattle.printing.proofs.put.Text.put_line.Goals as goal

pub returns-clause-put : goal.returns-clause-put
unfolding line
returns-clause-put c = behind (behind c.put.ensures c.put_said.ensures.put) c.put-2.ensures
