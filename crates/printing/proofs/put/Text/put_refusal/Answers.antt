-- `printing::put::Text::put_refusal` meets its contract: the number, and for 7 the cell.
use Rattle.printing.proofs.PutsLaws.{behind}
use Rattle.printing.proofs.put.Text.put_refusal.Goals as goal

pub returns-in-Cell-clause-put : goal.returns-in-Cell-clause-put
returns-in-Cell-clause-put c = rw c.in-Cell.is (behind (rw (c.number.ensures, c.in-Cell.is) at c.put_named.ensures.put) c.put_named-in-Cell.ensures.put)
