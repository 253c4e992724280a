-- Document 02, [6], "The true best for short series": the call's checks, what it borrows and what it promises. Assumes nothing.
use Rattle.promise.specs.Answers.{PlanAnswer}
use Rattle.std.specs.Prelude.{◌≡◌, Bool, ◌||◌, List, ℕ, ◌+◌, ◌*◌, ltb, length}
use Rattle.std.proofs.Math.Option.{Option}
use Rattle.criteria.specs.Choice.{Problem, InBudget, TrueBest}
use Rattle.tables.specs.declared.refusal.Refusal.{Refusal}
use Rattle.tables.specs.declared.refusal.Refusal.TheVariants as refusal
use Rattle.tables.specs.Limits.{most_short_scans, most_short_budget}
use Rattle.checks.specs.Checks.{when}
use Rattle.checks.specs.Planning.{Asked, UnsoundBy, SoundBy, problem_of}
use Rattle.promise.specs.Promise.{PromiseOver, cleared, totals, plan_reply}

-- "scratch is N × Q × (B + 1) bytes for choices": the part of one scan, and of all
abbrev pub scan_need : (Q B : ℕ) → ℕ
scan_need Q B = Q * (B + 1)

abbrev pub choices_need : (N Q B : ℕ) → ℕ
choices_need N Q B = N * scan_need Q B

-- "and 4 × Q × (B + 1) 32-bit cells for running totals"
abbrev pub totals_need : (Q B : ℕ) → ℕ
totals_need Q B = 4 * scan_need Q B

-- "new 19, B over 4,095, comes after 4 and before 5"
abbrev pub budget_check : ℕ → Option Refusal
budget_check B = when (ltb most_short_budget B) refusal.Budget

-- 6: "a lent buffer shorter than needed"; plan and choices count bytes, totals cells
abbrev pub best_short : (N Q B plan choices totals : ℕ) → Bool
best_short N Q B plan choices totals = ltb plan N || (ltb choices (choices_need N Q B) || ltb totals (totals_need Q B))

-- "Refusals: 1 at N over 64; new 19 ..; the others as for planning": the first of the checks 1 to 7 that fails, and that none does. The
-- question's `scratch` is the length of the choices; `room` is that of the totals.
abbrev pub BestUnsound : (a : Asked) (B room : ℕ) → Refusal → Type 0
BestUnsound a B room = UnsoundBy most_short_scans (budget_check B) (best_short a.N a.Q B a.plan a.scratch room) a

abbrev pub BestSound : (a : Asked) (B room : ℕ) → Type 0
BestSound a B room = SoundBy most_short_scans (budget_check B) (best_short a.N a.Q B a.plan a.scratch room) a

-- both are as they were
abbrev pub BothSame : (choices cells choices' cells' : List ℕ) → Type 0
BothSame choices cells choices' cells' = (choices' ≡ choices) × (cells' ≡ cells)

-- "both zero afterwards on success and on 8 or 9"
abbrev pub BothZero : (a : Asked) (B : ℕ) (choices cells choices' cells' : List ℕ) → Type 0
BothZero a B choices cells choices' cells' =
    (choices' ≡ cleared (choices_need a.N a.Q B) choices) × (cells' ≡ cleared (totals_need a.Q B) cells)

-- the plan, and the answer: rate, distortion and peak
abbrev pub IsBestPlan : Problem → ℕ → List ℕ → List ℕ → Type 0
IsBestPlan P B s v = TrueBest P B s × (v ≡ totals P s)

-- The promise of the call; `cells` are the running totals.
abbrev pub BestPromise : (a : Asked) (B : ℕ) (plan choices cells : List ℕ) → PlanAnswer → (plan' choices' cells' : List ℕ) → Type 0
BestPromise a B plan choices cells r plan' choices' cells' =
    PromiseOver a (BestUnsound a B (length cells)) (BestSound a B (length cells)) (problem_of a) (InBudget (problem_of a) B) (IsBestPlan (problem_of a) B)
    (BothSame choices cells choices' cells') (BothZero a B choices cells choices' cells') plan (plan_reply r) plan'
