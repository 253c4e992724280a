-- `printing::put::Text::put_average` meets its contract: part behind part.
use Rattle.printing.proofs.PutsLaws.{behind}
use Rattle.printing.proofs.put.Text.put_average.Goals as goal

pub returns-clause-put : goal.returns-clause-put
returns-clause-put c =
    let with_sums = behind c.put_ratio.ensures.put c.put_sums.ensures.put in
    let with_floor = behind (behind with_sums c.put_named.ensures.put) c.put_named-2.ensures.put in
    behind with_floor c.put_planned.ensures.put
