-- `imports::size::Size::cell_of` meets its contract: a line in range names a cell.
use native.Mathlib.Omega.{arith}
use Rattle.imports.proofs.JudgeLaws.{numbers_in_range, cell_there}
use Rattle.imports.proofs.size.Size.cell_of.Goals as goal

pub number-requires : goal.number-requires
number-requires c =
    let r = numbers_in_range c.requires in
    let w = c.args.self.within in
    record { settings_le_most_settings = (w.1.1, omega (arith, r.scan, w)); before_lt_settings = (r.previous, r.setting) }

pub returns : goal.returns
returns c = (c.number.ensures, omega (arith, c.number.ensures, cell_there (numbers_in_range c.requires)))
