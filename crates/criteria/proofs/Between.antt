-- The true best at a budget stands between what an average plan proves and what it gives (document 02, [6]). Assumes nothing.
use mathlib.Core.Logic.{◌↔◌}
use mathlib.Core.List.{List}
use Prim.Native.Nat.{ℕ, ◌≤◌}
use Rattle.criteria.specs.Choice.{Problem, Average, AverageFloor, TrueBest}
use Rattle.criteria.proofs.Order.{then_le}
use Rattle.criteria.proofs.Bound.{floor_below}
use Rattle.criteria.proofs.Finite.{Finite}
use Rattle.criteria.proofs.Exist.{some_average, some_true_best}

module _ (P : Problem) {B : ℕ} where
  -- "Show its distortion at or above the average plan's floor and at most that plan's distortion."
  pub between : {n d F : ℕ} {s t : List ℕ} → Average P B n d s → AverageFloor P B n d s F → TrueBest P B t →
      (F ≤ P.distortion t) × (P.distortion t ≤ P.distortion s)
  between {n} {d} {F} {s} {t} a f b =
      (floor_below P n d B F a.plan f t b.one.0 b.one.1, then_le (b.ahead s (a.plan.one, a.fits)))

  -- a true best exists exactly where an average plan does
  pub both_exist : Finite P → ((t : List ℕ) × TrueBest P B t) ↔ ((n : ℕ) × (d : ℕ) × (s : List ℕ) × Average P B n d s)
  both_exist fin = (λ b. some_average P fin B b.0 b.1.one, λ a. some_true_best P fin B a.2 (a.3.plan.one, a.3.fits))
