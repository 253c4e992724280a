-- `tables::law::no_law` meets its contract.
use native.Mathlib.Omega.{arith}
use Rattle.tables.specs.Law.{law_out}
use Rattle.std.proofs.lemmas.Bool.Decides.{nat_tests}
use Rattle.tables.proofs.law.no_law.Goals as goal

pub returns : goal.returns
unfolding law_out
returns c = grind (arith, nat_tests)
