-- The true best: one answer and one content of all three buffers for equal inputs. Assumes nothing.
use Rattle.promise.specs.Answers.{PlanAnswer}
use mathlib.Core.Path.{◌≡◌, sym, ap, ◌∙◌}
use mathlib.Core.Logic.{◌⊎◌, inl, inr}
use mathlib.Core.List.{List}
use Prim.Native.Nat.{ℕ}
use Rattle.criteria.specs.Choice.{Problem, InBudget}
use Rattle.criteria.proofs.Unique.{true_best_unique}
use Rattle.checks.specs.Planning.{Asked, problem_of}
use Rattle.checks.proofs.PlanningLaws.{unsound_unique, sound_or_not}
use Rattle.promise.specs.Promise.{totals}
use Rattle.promise.proofs.Unique.{over_unique, plan_answer_unique}
use Rattle.best.specs.Best.{IsBestPlan, BestPromise}

module _ (P : Problem) (B : ℕ) where
  pub one_best : (s v s' v' : List ℕ) → IsBestPlan P B s v → IsBestPlan P B s' v' → (s ≡ s') × (v ≡ v')
  one_best s v s' v' p q = let e = true_best_unique P p.0 q.0 in (e, p.1 ∙ ap (totals P) e ∙ sym q.1)

  pub best_within : (s v : List ℕ) → IsBestPlan P B s v → P.allowed s × InBudget P B s
  best_within s v p = (p.0.one.0, p.0.one)

-- two buffers that are each one of two contents after both have one content
one_content : {c c' k k' x y u v : List ℕ} → (((c ≡ x) × (k ≡ u)) × ((c' ≡ x) × (k' ≡ u))) ⊎ (((c ≡ y) × (k ≡ v)) × ((c' ≡ y) × (k' ≡ v))) → (c ≡ c') × (k ≡ k')
one_content (inl e) = (e.0.0 ∙ sym e.1.0, e.0.1 ∙ sym e.1.1)
one_content (inr e) = (e.0.0 ∙ sym e.1.0, e.0.1 ∙ sym e.1.1)

module _ {a : Asked} {B : ℕ} {plan choices cells p p' c c' k k' : List ℕ} where
  pub best_settled : (r r' : PlanAnswer) → BestPromise a B plan choices cells r p c k → BestPromise a B plan choices cells r' p' c' k' →
      (r ≡ r') × (p ≡ p') × (c ≡ c') × (k ≡ k')
  best_settled r r' h h' =
      let u = over_unique (λ x y. unsound_unique) (λ x. sound_or_not) (one_best (problem_of a) B) (best_within (problem_of a) B) h h' in
      let w = one_content u.2 in
      (plan_answer_unique r r' u.0, u.1, w.0, w.1)
