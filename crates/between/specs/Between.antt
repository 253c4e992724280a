-- Document 02, [6]: "Show its distortion at or above the average plan's floor and at most that plan's distortion." And an answer with what it
-- leaves in three buffers. Assumes nothing.
use Rattle.promise.specs.Answers.{PlanAnswer}
use Rattle.std.specs.Prelude.{◌≡◌, ◌↔◌, List, ℕ, ◌≤◌}
use Rattle.tables.specs.Refusals.{Reply}
use Rattle.walk.specs.declared.Totals.{Totals}
use Rattle.checks.specs.Planning.{Asked}
use Rattle.promise.specs.declared.AveragePlan.{AveragePlan}
use Rattle.best.specs.Best.{BestPromise}

-- of the answers of the two calls at one budget
pub record Between (average : AveragePlan) (best : Totals) : Type 0 where
  pub above : average.floor.0 ≤ best.distortion.0
  pub below : best.distortion.0 ≤ average.totals.distortion.0

-- one is given exactly where the other is, and they are refused with 8 and with 9 alike
pub record GivenTogether (average best : Reply) : Type 0 where
  pub given : (average.number ≡ 0) ↔ (best.number ≡ 0)
  pub eight : (average.number ≡ 8) ↔ (best.number ≡ 8)
  pub nine : (average.number ≡ 9) ↔ (best.number ≡ 9)

-- an answer, and what it leaves in the lent buffers, of which the promise is true
pub record SomeBest (a : Asked) (B : ℕ) (plan choices cells : List ℕ) : Type 0 where
  pub answer : PlanAnswer
  pub plan_after : List ℕ
  pub choices_after : List ℕ
  pub cells_after : List ℕ
  pub promised : BestPromise a B plan choices cells answer plan_after choices_after cells_after
