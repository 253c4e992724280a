-- Every question of the true best has an answer that keeps its promise, under any law that has a test. Assumes nothing.
use Rattle.std.specs.Prelude.{Ok, Err}
use mathlib.Core.Path.{◌≡◌, refl}
use mathlib.Core.Bool.{Bool, true, false, cond}
use mathlib.Core.List.{List}
use Prim.Native.Nat.{ℕ}
use lib.ListN.{length}
use Rattle.criteria.specs.Choice.{Problem, InBudget}
use Rattle.criteria.proofs.Finite.{Finite, some_or_none}
use Rattle.criteria.proofs.Exist.{some_true_best}
use Rattle.tables.specs.Law.{Tests}
use Rattle.tables.specs.Limits.{most_short_scans}
use Rattle.tables.proofs.LawLaws.{tested?}
use Rattle.tables.proofs.Listing.{table_finite}
use Rattle.checks.specs.Planning.{Asked, table_of, problem_of}
use Rattle.promise.specs.Promise.{cleared, totals, plan_reply}
use Rattle.promise.proofs.Exist.{totals_of, in_budget?, some_outcome}
use Rattle.best.specs.Best.{choices_need, totals_need, budget_check, best_short, BothSame, BothZero, IsBestPlan}
use Rattle.between.specs.Between.{SomeBest}

-- two buffers that are one of two contents are those
both : (kept : Bool) (x y u v : List ℕ) → cond kept ((cond kept x y ≡ x) × (cond kept u v ≡ u)) ((cond kept x y ≡ y) × (cond kept u v ≡ v))
both true x y u v = (refl, refl)
both false x y u v = (refl, refl)

module _ (a : Asked) {test : ℕ → ℕ → Bool} (tests : Tests test a.law) (B : ℕ) (plan choices cells : List ℕ) where
  abbrev P : Problem
  P = problem_of a

  abbrev fin : Finite P
  fin = table_finite (table_of a) (tested? tests)

  pub best_some : SomeBest a B plan choices cells
  unfolding totals_of
  best_some =
      let o = some_outcome plan_reply Err (λ r. refl) most_short_scans (budget_check B) (best_short a.N a.Q B a.plan a.scratch (length cells)) a
      (InBudget P B) (IsBestPlan P B) plan (some_or_none P fin) (in_budget? a tests plan choices B)
      (λ t w. let s = some_true_best P fin B t w in
      record { settings = s.0; values = totals P s.0; is_plan = (s.1, refl); answer = Ok (totals_of P s.0); told = refl }) in
      let choices' = cond o.kept choices (cleared (choices_need a.N a.Q B) choices) in
      let cells' = cond o.kept cells (cleared (totals_need a.Q B) cells) in
      record {
        answer = o.answer;
        plan_after = o.plan;
        choices_after = choices';
        cells_after = cells';
        promised = o.promised (BothSame choices cells choices' cells') (BothZero a B choices cells choices' cells')
            (both o.kept choices (cleared (choices_need a.N a.Q B) choices) cells (cleared (totals_need a.Q B) cells));
      }
