-- `entries::check_file` meets its contract: the entries are those of the file.
use Rattle.blocks.specs.File.{entry_at}
use Rattle.entries.proofs.check_file.Given as goal

abbrev pub ghost-check : goal.ghost-check
ghost-check a = entry_at a.entry.0.now
