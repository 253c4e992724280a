-- The true best: 8 exactly when no sequence is allowed, and 9 exactly when some is and none is within the budget. Assumes nothing.
use Rattle.promise.specs.Answers.{PlanAnswer}
use mathlib.Core.List.{List}
use Prim.Native.Nat.{ℕ}
use native.Mathlib.Omega.{arith}
use lib.Dec.{ltb}
use lib.ListN.{length}
use Rattle.criteria.specs.Choice.{InBudget}
use Rattle.tables.specs.declared.refusal.Refusal.TheVariants as refusal
use Rattle.tables.specs.Limits.{most_short_budget}
use Rattle.checks.specs.Planning.{Asked, problem_of}
use Rattle.checks.proofs.GiveLaws.{Gives, gives_when}
use Rattle.checks.proofs.PlanningLaws.{sound_or_not}
use Rattle.promise.specs.Promise.{plan_reply}
use Rattle.promise.specs.Says.{ExactlyOver}
use Rattle.promise.proofs.Exactly.{Early, unsound_early, over_exactly}
use Rattle.best.specs.Best.{budget_check, BestSound, BestPromise}
use Rattle.between.proofs.Unique.{best_within}

-- 19 is neither
budget_early : (B : ℕ) → Gives Early (budget_check B)
budget_early B = gives_when Early (ltb most_short_budget B) refusal.Budget (λ z. omega arith, λ z. omega arith)

pub best_exactly : {a : Asked} (B : ℕ) {plan choices cells p c k : List ℕ} (r : PlanAnswer) → BestPromise a B plan choices cells r p c k →
    ExactlyOver (BestSound a B (length cells)) (problem_of a) (InBudget (problem_of a) B) (plan_reply r)
best_exactly {a} B r h = over_exactly (λ x. unsound_early (budget_early B)) (λ x. sound_or_not) (best_within (problem_of a) B) h
