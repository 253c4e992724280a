-- `printing::put::Text::put_ratio` meets its contract: a number, a slash, and a number.
use Rattle.std.proofs.Common.{[], ◌∷◌, append_assoc}
use Rattle.printing.specs.Lines.{decimal, spaced}
use Rattle.printing.proofs.PutsLaws.{behind, written}
use Rattle.printing.proofs.put.Text.put_ratio.Goals as goal

pub returns-clause-put : goal.returns-clause-put
returns-clause-put c =
    written (append_assoc (spaced (decimal c.args.n)) (47 ∷ []) (decimal c.args.d)) (behind (behind c.put_spaced.ensures c.put.ensures) c.put_number.ensures)
