-- `tables::law::keeps` meets its contract, a number at a time.
use native.Mathlib.Omega.{arith}
use Rattle.std.proofs.lemmas.Bool.Decides.{nat_tests}
use Rattle.tables.specs.Law.{allows}
use Rattle.tables.proofs.law.keeps.Goals as goal

pub returns-in-0 : goal.returns-in-0
unfolding allows
returns-in-0 c = grind (arith, nat_tests)

pub returns-in-1 : goal.returns-in-1
unfolding allows
returns-in-1 c = rw c.in-1.is (grind (arith, nat_tests))

pub returns-in-2 : goal.returns-in-2
unfolding allows
returns-in-2 c = rw c.in-2.is (grind (arith, nat_tests))

pub returns-in_default : goal.returns-in_default
unfolding allows
returns-in_default c = grind (arith, nat_tests)
