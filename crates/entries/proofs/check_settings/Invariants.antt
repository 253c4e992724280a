-- `entries::check_settings` meets its contract: the entries are those of the list.
use lib.ListN.{get_or}
use Rattle.entries.proofs.check_settings.Given as goal

abbrev pub ghost-check : goal.ghost-check
ghost-check a = λ j. get_or a.entry.0.now j 0
