-- What the parts of the call leave each other. No promise cites it. Assumes nothing.
use Rattle.promise.specs.Answers.{PlanAnswer}
use Rattle.std.specs.Prelude.{◌≡◌, List, ◌++◌, ℕ, ◌+◌, ◌-◌, ◌≤◌, ◌<◌, length, get_or, drop}
use Rattle.criteria.specs.Choice.{Problem, InBudget, TrueBest}
use Rattle.tables.specs.Series.{total}
use Rattle.tables.specs.Tables.{cell, scratch_need}
use Rattle.checks.specs.Planning.{Asked, problem_of}
use Rattle.walk.specs.declared.Totals.{Totals}
use Rattle.walk.specs.Walked.{TotalsOf}
use Rattle.trellis.specs.Choices.{chosen}
use Rattle.seek.specs.Sought.{Framed}
use Rattle.within.specs.Ways.{path}
use Rattle.within.specs.Filled.{choice_at}
use Rattle.promise.specs.Promise.{PromiseOver, plan_reply}
use Rattle.best.specs.Best.{choices_need, totals_need, BestUnsound, BestSound, IsBestPlan}

-- of the w totals from `row` on, b is the first that is as low as the last: the least budget within which the least distortion is had
pub record LeastLeft (row w b : ℕ) (cells : List ℕ) : Type 0 where
  pub inside : b < w
  pub same : get_or cells (row + b) 0 ≡ get_or cells (row + (w - 1)) 0
  pub first : (j : ℕ) → j < b → get_or cells (row + j) 0 ≡ get_or cells (row + (w - 1)) 0 → ⊥

-- the rate of a choice
abbrev pub rate_of : (Q : ℕ) → List ℕ → ℕ → ℕ → ℕ → ℕ
rate_of Q rates i p q = get_or rates (cell Q i p q) 0

-- the sequence that the choices lead to from scan 0 on with b left
abbrev pub traced : (N Q w b : ℕ) (rates choices : List ℕ) → List ℕ
traced N Q w b rates choices = path (rate_of Q rates) (choice_at Q w choices) N 0 0 b

-- it can be followed: it has settings below Q, and b is enough for it
pub record Followable (Q b : ℕ) (rates s : List ℕ) : Type 0 where
  pub settings : (i : ℕ) → i < length s → get_or s i 0 < Q
  pub fits : total (rate_of Q rates) 0 0 s ≤ b

-- it stands among the choices as a pass would leave it
pub record Retraced (N Q : ℕ) (s before after : List ℕ) : Type 0 where
  pub stands : chosen Q N after ≡ s
  pub framed : Framed (scratch_need N Q) before after

-- the true best is handed over, and its totals are told
pub record BestGiven (P : Problem) (N B : ℕ) (plan : List ℕ) (t : Totals) (plan' : List ℕ) : Type 0 where
  pub settings : List ℕ
  pub is_best : TrueBest P B settings
  pub totals : TotalsOf P settings t
  pub handed : plan' ≡ settings ++ drop N plan

-- nothing past what is needed has changed, of the choices and of the totals
abbrev pub BothFramed : (N Q B : ℕ) (choices cells choices' cells' : List ℕ) → Type 0
BothFramed N Q B choices cells choices' cells' = Framed (choices_need N Q B) choices choices' × Framed (totals_need Q B) cells cells'

-- all that is promised but for what is zero afterwards
abbrev pub SoughtBest : (a : Asked) (B : ℕ) (plan choices cells : List ℕ) → PlanAnswer → (plan' choices' cells' : List ℕ) → Type 0
SoughtBest a B plan choices cells r plan' choices' cells' =
    PromiseOver a (BestUnsound a B (length cells)) (BestSound a B (length cells)) (problem_of a) (InBudget (problem_of a) B) (IsBestPlan (problem_of a) B)
    ⊥ (BothFramed a.N a.Q B choices cells choices' cells') plan (plan_reply r) plan'
