-- `tables::cells::scratch_need` meets its contract.
use Rattle.tables.proofs.CellLaws.{need_is, need_small}
use Rattle.tables.proofs.cells.scratch_need.Goals as goal

pub returns : goal.returns
returns c = (need_is _ _, need_small c.requires.0 c.requires.1)
