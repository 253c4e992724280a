-- `planfile::read::hand_over` meets its contract: entry after entry.
use native.Mathlib.Omega.{arith}
use mathlib.Core.Path.{ap, ◌∙◌}
use lib.ListN.{set}
use Rattle.blocks.specs.File.{entry_at}
use Rattle.planfile.proofs.EntryLaws.{entries_more}
use Rattle.planfile.proofs.read.hand_over.Goals as goal

pub loop-j-preserved : goal.loop-j-preserved
loop-j-preserved c =
    let l = c.loop-j in
    let e = entry_at c.args.file.now in
    ap (λ x. set l.settings l.j x) c.get.ensures.0
    ∙ ap (λ d. set d l.j (e l.j)) l.invariant
    ∙ entries_more e c.args.settings.now l.j (omega arith)
