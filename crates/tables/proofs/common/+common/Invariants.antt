-- `tables::common::common` calls itself on the remainder, which is below `b`.
use Rattle.tables.proofs.common.+common.Given as goal

abbrev pub decreases-common : goal.decreases-common
decreases-common l = l.b
