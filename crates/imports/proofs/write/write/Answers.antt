-- `imports::write::write` meets its contract: what the lines that are left make of the tables is what all make of them.
use Rattle.imports.proofs.WriteLaws.{writing_starts}
use Rattle.imports.proofs.write.write.Goals as goal

pub loop-line-init : goal.loop-line-init
loop-line-init c =
    let a = c.args in (
      tt,
      (
        tt,
        rw (c.into_iter-line-iterator.ensures.into_iter_gives, c.lines_of-line-items.ensures)
            (writing_starts a.size.scans a.size.settings a.text.now a.rates.now a.distortions.now c.requires.faultless),
      ),
    )
