-- `planfile::write::put_file` meets its contract: block after block.
use mathlib.Core.Path.{◌≡◌}
use lib.Seq.{sets}
use Rattle.blocks.specs.Letters.{qpl2}
use Rattle.blocks.specs.File.{data_from, entry_of}
use Rattle.planfile.proofs.write.put_file.Given as goal

abbrev pub invariant-loop-b : goal.invariant-loop-b
invariant-loop-b l = l.file ≡ sets l.initial.file 512 (data_from qpl2 (entry_of l.f.scans l.settings) 0 l.b)
