-- `search::slopes::narrowed` meets its contract.
use mathlib.Core.Path.{refl}
use mathlib.Core.Logic.{inl, inr}
use Rattle.search.proofs.slopes.narrowed.Goals as goal

pub returns-then-plan-budget : goal.returns-then-plan-budget
returns-then-plan-budget c = inl (c.if-plan-budget.true, (refl, refl))

pub returns-else-plan-budget : goal.returns-else-plan-budget
returns-else-plan-budget c = inr (c.if-plan-budget.false, (refl, refl))
