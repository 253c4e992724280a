-- No answer of the call for the true best depends on a distortion beside a forbidden rate. Assumes nothing.
use Rattle.promise.specs.Answers.{PlanAnswer}
use mathlib.Core.Path.{◌≡◌, refl, sym, ◌∙◌}
use mathlib.Core.List.{List}
use Prim.Native.Nat.{ℕ}
use lib.ListN.{length}
use Rattle.criteria.proofs.Agree.{Agree, true_best_agrees, none_in_budget_agrees}
use Rattle.tables.specs.declared.refusal.Refusal.{Refusal}
use Rattle.tables.specs.Legal.{SameShown}
use Rattle.tables.specs.Limits.{most_short_scans}
use Rattle.tables.proofs.HiddenLaws.{shown_agrees, all_legal_same, lowest_illegal_same}
use Rattle.checks.specs.Planning.{Asked, early, illegal, first_early, asking_under, table_of, problem_of, weigh_of}
use Rattle.promise.proofs.Moves.{over_moves, totals_same}
use Rattle.best.specs.Best.{budget_check, best_short, BestUnsound, BestSound, BestPromise}

module _ (a : Asked) (D : List ℕ) (shown : SameShown a.rates a.distortions D) (B : ℕ) where
  abbrev other : Asked
  other = asking_under a.lawless a.law a.N a.Q a.rates D a.weights a.plan a.scratch

  same : Agree (problem_of a) (problem_of other)
  same = shown_agrees (table_of a) D shown

  early_same : (room : ℕ) → first_early most_short_scans (budget_check B) (best_short a.N a.Q B a.plan a.scratch room) a
      ≡ first_early most_short_scans (budget_check B) (best_short a.N a.Q B a.plan a.scratch room) other
  unfolding first_early
  early_same room = rw shown.long

  sound_same : (room : ℕ) → BestSound a B room → BestSound other B room
  sound_same room s = record { passed = sym (early_same room) ∙ s.passed; legal = all_legal_same (weigh_of a) shown s.legal }

  unsound_same : (room : ℕ) (r : Refusal) → BestUnsound a B room r → BestUnsound other B room r
  unsound_same room r (early e) = early (sym (early_same room) ∙ e)
  unsound_same room r (illegal e l) = illegal (sym (early_same room) ∙ e) (lowest_illegal_same (weigh_of a) shown l)

  pub best_hidden : {plan choices cells p c k : List ℕ} (r : PlanAnswer) → BestPromise a B plan choices cells r p c k → BestPromise other B plan choices cells r p c k
  best_hidden {cells = cells} r =
      over_moves {a = a} {a' = other} refl same (unsound_same (length cells)) (sound_same (length cells)) (none_in_budget_agrees same {B = B})
      (λ t v q. (true_best_agrees same B q.0, q.1 ∙ totals_same same t q.0.one.0)) (λ g. g) (λ g. g)
