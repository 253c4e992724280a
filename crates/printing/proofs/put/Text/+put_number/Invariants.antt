-- `printing::put::Text::put_number` calls itself on a tenth of `x`.
use Rattle.printing.proofs.put.Text.+put_number.Given as goal

abbrev pub decreases-put_number : goal.decreases-put_number
decreases-put_number l = l.x
