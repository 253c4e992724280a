-- `puts::put_entries` meets its contract: zeros, and then entry after entry.
use mathlib.Core.Path.{◌≡◌}
use lib.ListN.{length}
use Rattle.blocks.specs.File.{entry_of}
use Rattle.puts.proofs.EnteredLaws.{entered}
use Rattle.puts.proofs.put_entries.Given as goal

abbrev pub invariant-loop-j : goal.invariant-loop-j
invariant-loop-j l = l.file ≡ entered l.fn.file (entry_of (length l.settings) l.settings) l.b l.j
