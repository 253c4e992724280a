-- Demand 3, from the definition of the average plan and its floor alone. Assumes nothing.
use mathlib.Core.List.{List}
use Prim.Native.Nat.{ℕ, ◌+◌, ◌*◌, ◌≤◌}
use Rattle.criteria.specs.Choice.{Problem, Multiplier, Average, AverageFloor, cost}
use Rattle.criteria.specs.Demand.{Demand}
use Rattle.criteria.specs.Found.{Certificate}
use Rattle.criteria.proofs.Bound.{certificate, floor_below, floor_most, gap, least_distortion}
use Rattle.criteria.proofs.Finite.{Finite, bound, bound_is}
use Rattle.criteria.proofs.Exist.{some_plan}

module _ (P : Problem) (fin : Finite P) {B n d : ℕ} {s : List ℕ} (a : Average P B n d s) where
  -- n is zero, or an allowed sequence over B ties with the plan
  pub average_certificate : Certificate P n d B s
  average_certificate = certificate P (bound P fin P.rate) (bound_is P fin P.rate) (λ n d k. some_plan P fin s a.plan.one n d) a

  module _ {F : ℕ} (f : AverageFloor P B n d s F) where
    -- every multiplier's inequality holds at F
    pub average_floor : (n' d' : ℕ) {s' : List ℕ} → Multiplier P n' d' s' → cost P n' d' s' ≤ d' * F + n' * B
    average_floor = floor_most P n d B F a.lowest.whole a.plan a.fits average_certificate f

    pub demand : Demand P B n d F s
    demand = record {
      floor = λ t w. floor_below P n d B F a.plan f t w.0 w.1;
      gap = λ t w. gap P n d B a.plan a.fits t w.0 w.1;
      highest = λ n' d' F' s' k p f'. f'.least F (average_floor n' d' p);
      best = λ n' d' s' k p h. least_distortion P a n' d' k p h;
    }
