-- Document 01 as it stands without document 02, [5]: its cells, its checks 5 and 7, its problem, and what its four calls promise. Nothing here
-- looks at a weight. Assumes nothing.
use Rattle.promise.specs.Answers.{PlanAnswer, MinmaxAnswer, AverageAnswer}
use Rattle.std.specs.Prelude.{◌≡◌, ◌⊎◌, ◌≢◌, List, ℕ, ◌≤◌, ◌<◌, length, get_or}
use Rattle.std.proofs.Math.Option.{Option, none, some}
use Rattle.criteria.specs.Choice.{Problem, UnderCeiling, InBudget}
use Rattle.tables.specs.declared.refusal.Refusal.{Refusal}
use Rattle.tables.specs.declared.refusal.Refusal.TheVariants as refusal
use Rattle.tables.specs.Limits.{most_scans, most_cell, forbidden}
use Rattle.tables.specs.Law.{Follows}
use Rattle.tables.specs.Series.{Series, problem}
use Rattle.tables.specs.Tables.{Table, rate_at, distortion_at}
use Rattle.tables.specs.Legal.{LegalRate}
use Rattle.tables.specs.Refusals.{Reply}
use Rattle.checks.specs.Checks.{first_refusal}
use Rattle.checks.specs.Planning.{Asked, table_of, planning_checks, lengths_out, buffers_short, fourth_check}
use Rattle.promise.specs.Promise.{PromiseOver, wiped, IsCeilingPlan, IsMultiplierPlan, IsMinmaxPlan, IsAveragePlan, plan_reply, minmax_reply, average_reply}

-- "Beside a forbidden rate the distortion may be any value .. . Every other distortion is 0 to 1,048,575."
abbrev pub PlainCell : List ℕ → List ℕ → ℕ → Type 0
PlainCell rates distortions k = LegalRate (get_or rates k 0) × ((get_or distortions k 0 ≤ most_cell) ⊎ (get_or rates k 0 ≡ forbidden))

abbrev pub AllPlain : List ℕ → List ℕ → Type 0
AllPlain rates distortions = (k : ℕ) → k < length rates → PlainCell rates distortions k

-- refusal 7, "illegal cell", carries the "lowest illegal cell number"
pub record LowestPlain (rates distortions : List ℕ) (k : ℕ) : Type 0 where
  pub inside : k < length rates
  pub illegal : PlainCell rates distortions k → ⊥
  pub lowest : (j : ℕ) → j < k → PlainCell rates distortions j

-- the first refusal of the checks 1 to 6, of which 5 is "rate or distortion table not of the exact length"
unfoldable pub plain_refusal : Option Refusal → Asked → Option Refusal
plain_refusal further a =
    first_refusal (planning_checks most_scans a.N a.Q a.lawless further (lengths_out a.N a.Q a.rates a.distortions)
    (buffers_short a.N a.Q a.plan a.scratch))

-- one of the checks 1 to 7 fails, and this is the refusal of the first that does
pub data PlainUnsound (further : Option Refusal) (a : Asked) : Refusal → Type 0 where
  plain_early : {r : Refusal} → plain_refusal further a ≡ some r → PlainUnsound further a r
  plain_illegal : {k : ℕ} → plain_refusal further a ≡ none → LowestPlain a.rates a.distortions k → PlainUnsound further a (refusal.Cell k)

-- none of the checks 1 to 7 fails
pub record PlainSound (further : Option Refusal) (a : Asked) : Type 0 where
  pub passed : plain_refusal further a ≡ none
  pub legal : AllPlain a.rates a.distortions

-- "its distortion the sum of its distortion cells, its peak the largest distortion cell"
abbrev pub plain_series : Table → Series
plain_series t = record {
  scans = t.N;
  settings = t.Q;
  may = λ i p q. (rate_at t i p q ≢ forbidden) × Follows t.law i p q;
  rate = rate_at t;
  distortion = distortion_at t;
  height = distortion_at t;
}

abbrev pub plain_problem : Asked → Problem
plain_problem a = problem (plain_series (table_of a))

-- what the four calls promise
abbrev pub PlainPromise : Option Refusal → (a : Asked) → (within : List ℕ → Type 0) → (Plan : List ℕ → List ℕ → Type 0) → (plan scratch : List ℕ) →
    Reply → (plan' scratch' : List ℕ) → Type 0
PlainPromise further a within Plan plan scratch reply plan' scratch' =
    PromiseOver a (PlainUnsound further a) (PlainSound further a) (plain_problem a) within Plan (scratch' ≡ scratch) (scratch' ≡ wiped a scratch) plan reply plan'

abbrev pub PlainCeiling : Asked → ℕ → (plan scratch : List ℕ) → PlanAnswer → (plan' scratch' : List ℕ) → Type 0
PlainCeiling a X plan scratch r plan' scratch' =
    PlainPromise none a (UnderCeiling (plain_problem a) X) (IsCeilingPlan (plain_problem a) X) plan scratch (plan_reply r) plan' scratch'

abbrev pub PlainMultiplier : Asked → ℕ → ℕ → (plan scratch : List ℕ) → PlanAnswer → (plan' scratch' : List ℕ) → Type 0
PlainMultiplier a n d plan scratch r plan' scratch' =
    PlainPromise (fourth_check n d) a (plain_problem a).allowed (IsMultiplierPlan (plain_problem a) n d) plan scratch (plan_reply r) plan' scratch'

abbrev pub PlainMinmax : Asked → ℕ → (plan scratch : List ℕ) → MinmaxAnswer → (plan' scratch' : List ℕ) → Type 0
PlainMinmax a B plan scratch r plan' scratch' =
    PlainPromise none a (InBudget (plain_problem a) B) (IsMinmaxPlan (plain_problem a) B) plan scratch (minmax_reply r) plan' scratch'

abbrev pub PlainAverage : Asked → ℕ → (plan scratch : List ℕ) → AverageAnswer → (plan' scratch' : List ℕ) → Type 0
PlainAverage a B plan scratch r plan' scratch' =
    PlainPromise none a (InBudget (plain_problem a) B) (IsAveragePlan (plain_problem a) B) plan scratch (average_reply r) plan' scratch'
