-- What a planning call promises: one relation between what it was asked, what it answers and what it leaves in the lent buffers.
-- Assumes nothing.
use Rattle.promise.specs.Answers.{PlanAnswer, MinmaxAnswer, AverageAnswer}
use Rattle.std.specs.Prelude.{Ok, Err}
use Rattle.std.specs.Prelude.{◌≡◌, List, [], ◌∷◌, ◌++◌, ℕ, drop, replicate}
use Rattle.std.proofs.Math.Option.{Option, none}
use Rattle.criteria.specs.Choice.{Problem, UnderCeiling, InBudget, Ceiling, Multiplier, Average, AverageFloor, Minmax, NoneAllowed, NoneWithin}
use Rattle.tables.specs.declared.refusal.Refusal.{Refusal}
use Rattle.tables.specs.declared.refusal.Refusal.TheVariants as refusal
use Rattle.tables.specs.Refusals.{Reply, refused, answered}
use Rattle.checks.specs.Planning.{Asked, Unsound, Sound, problem_of, fourth_check}
use Rattle.tables.specs.Tables.{scratch_need}
use Rattle.walk.specs.Walked.{total_values}

-- the first k of a buffer are zero, and the others as they were
abbrev pub cleared : ℕ → List ℕ → List ℕ
cleared k buffer = replicate k 0 ++ drop k buffer

-- "the first N × Q scratch bytes are zero", "extra bytes never change"
abbrev pub wiped : Asked → List ℕ → List ℕ
wiped a scratch = cleared (scratch_need a.N a.Q) scratch

-- "Settings go to the first N bytes of the plan buffer, one each."
abbrev pub handed : Asked → List ℕ → List ℕ → List ℕ
handed a s plan = s ++ drop a.N plan

-- Of a call on the question a: `Refused r` says that r is the refusal of the first of its checks 1 to 7 (19 among them, where it has that) that
-- fails, `Passed` that none does; P is its problem, `within` what the limit asks of a sequence, `Plan s v` that s is the plan and v the values
-- of the answer; `Same` says that all scratch is as it was, `Cleared` that what is needed of it is zero and the rest is as it was; plan is the
-- lent buffer before the call, plan' after it.
pub data PromiseOver (a : Asked) (Refused : Refusal → Type 0) (Passed : Type 0) (P : Problem) (within : List ℕ → Type 0)
    (Plan : List ℕ → List ℕ → Type 0) (Same Cleared : Type 0) (plan : List ℕ) (reply : Reply) (plan' : List ℕ) : Type 0 where
  -- "On refusals 1 to 7 all buffers stay the same." (And on 19.)
  unsound : {r : Refusal} → Refused r → reply ≡ refused r → plan' ≡ plan → Same →
      PromiseOver a Refused Passed P within Plan Same Cleared plan reply plan'
  -- 8, "no allowed sequence, whatever the limit"; "on 8 and 9 the plan buffer stays the same"
  no_sequence : Passed → NoneAllowed P → reply ≡ refused refusal.NoSequence → plan' ≡ plan → Cleared →
      PromiseOver a Refused Passed P within Plan Same Cleared plan reply plan'
  -- 9, "allowed sequences exist, none within ceiling or budget"
  none_within : Passed → NoneWithin P within → reply ≡ refused refusal.NoneWithin → plan' ≡ plan → Cleared →
      PromiseOver a Refused Passed P within Plan Same Cleared plan reply plan'
  -- "On success only the first N bytes of the plan buffer may differ."
  planned : Passed → (s v : List ℕ) → Plan s v → reply ≡ answered v → plan' ≡ handed a s plan → Cleared →
      PromiseOver a Refused Passed P within Plan Same Cleared plan reply plan'

-- .. of the four calls, with the checks and the problem that a question has, and one scratch; `further` is the check that the call has between
-- 3 and 5
abbrev pub Promise : Option Refusal → (a : Asked) → (within : List ℕ → Type 0) → (Plan : List ℕ → List ℕ → Type 0) → (plan scratch : List ℕ) → Reply →
    (plan' scratch' : List ℕ) → Type 0
Promise further a within Plan plan scratch reply plan' scratch' =
    PromiseOver a (Unsound further a) (Sound further a) (problem_of a) within Plan (scratch' ≡ scratch) (scratch' ≡ wiped a scratch) plan reply plan'

-- "An answer holds rate, distortion and peak, for minmax also X, for average also n, d and F."
abbrev pub totals : Problem → List ℕ → List ℕ
totals P s = P.rate s ∷ P.distortion s ∷ P.peak s ∷ []

abbrev pub IsCeilingPlan : Problem → ℕ → List ℕ → List ℕ → Type 0
IsCeilingPlan P X s v = Ceiling P X s × (v ≡ totals P s)

abbrev pub IsMultiplierPlan : Problem → ℕ → ℕ → List ℕ → List ℕ → Type 0
IsMultiplierPlan P n d s v = Multiplier P n d s × (v ≡ totals P s)

pub record IsMinmaxPlan (P : Problem) (B : ℕ) (s v : List ℕ) : Type 0 where
  pub ceiling : ℕ
  pub plan : Minmax P B ceiling s
  pub values : v ≡ ceiling ∷ totals P s

pub record IsAveragePlan (P : Problem) (B : ℕ) (s v : List ℕ) : Type 0 where
  pub n : ℕ
  pub d : ℕ
  pub floor : ℕ
  pub plan : Average P B n d s
  pub proves : AverageFloor P B n d s floor
  pub values : v ≡ n ∷ d ∷ P.rate s ∷ P.distortion s ∷ P.peak s ∷ floor ∷ []

-- The number and the values of each call's answer, in the order of the C surface.
abbrev pub plan_reply : PlanAnswer → Reply
plan_reply (Ok t) = answered (total_values t)
plan_reply (Err r) = refused r

abbrev pub minmax_reply : MinmaxAnswer → Reply
minmax_reply (Ok m) = answered (m.ceiling ∷ total_values m.totals)
minmax_reply (Err r) = refused r

abbrev pub average_reply : AverageAnswer → Reply
average_reply (Ok m) =
    answered (m.n ∷ m.d ∷ m.totals.rate.0 ∷ m.totals.distortion.0 ∷ m.totals.peak ∷ m.floor.0 ∷ [])
average_reply (Err r) = refused r

-- The promises of the four calls.
abbrev pub CeilingPromise : Asked → ℕ → (plan scratch : List ℕ) → PlanAnswer → (plan' scratch' : List ℕ) → Type 0
CeilingPromise a X plan scratch r plan' scratch' =
    Promise none a (UnderCeiling (problem_of a) X) (IsCeilingPlan (problem_of a) X) plan scratch (plan_reply r) plan' scratch'

-- a multiplier is no limit: every allowed sequence is within it, so 9 is never given
abbrev pub MultiplierPromise : Asked → ℕ → ℕ → (plan scratch : List ℕ) → PlanAnswer → (plan' scratch' : List ℕ) → Type 0
MultiplierPromise a n d plan scratch r plan' scratch' =
    Promise (fourth_check n d) a (problem_of a).allowed (IsMultiplierPlan (problem_of a) n d) plan scratch (plan_reply r) plan' scratch'

abbrev pub MinmaxPromise : Asked → ℕ → (plan scratch : List ℕ) → MinmaxAnswer → (plan' scratch' : List ℕ) → Type 0
MinmaxPromise a B plan scratch r plan' scratch' =
    Promise none a (InBudget (problem_of a) B) (IsMinmaxPlan (problem_of a) B) plan scratch (minmax_reply r) plan' scratch'

abbrev pub AveragePromise : Asked → ℕ → (plan scratch : List ℕ) → AverageAnswer → (plan' scratch' : List ℕ) → Type 0
AveragePromise a B plan scratch r plan' scratch' =
    Promise none a (InBudget (problem_of a) B) (IsAveragePlan (problem_of a) B) plan scratch (average_reply r) plan' scratch'
