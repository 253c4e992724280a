-- What a planning call answers, in code: its plan, or the refusal. Assumes nothing.
use Rattle.std.specs.Prelude.{Result}
use Rattle.tables.specs.declared.refusal.Refusal.{Refusal}
use Rattle.walk.specs.declared.Totals.{Totals}
use Rattle.promise.specs.declared.MinmaxPlan.{MinmaxPlan}
use Rattle.promise.specs.declared.AveragePlan.{AveragePlan}

-- of a ceiling call and of a multiplier call
abbrev pub PlanAnswer : Type 0
PlanAnswer = Result Totals Refusal

abbrev pub MinmaxAnswer : Type 0
MinmaxAnswer = Result MinmaxPlan Refusal

abbrev pub AverageAnswer : Type 0
AverageAnswer = Result AveragePlan Refusal
