-- `planfile::read::hand_over` meets its contract: entry after entry.
use mathlib.Core.Path.{◌≡◌}
use mathlib.Core.List.{◌++◌}
use lib.ListN.{drop}
use Rattle.blocks.specs.File.{entry_at}
use Rattle.planfile.specs.Reading.{entries}
use Rattle.planfile.proofs.read.hand_over.Given as goal

abbrev pub invariant-loop-j : goal.invariant-loop-j
invariant-loop-j l = l.settings ≡ entries (entry_at l.file) 0 l.j ++ drop l.j l.fn.settings
