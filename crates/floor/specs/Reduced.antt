-- The parts of the average call that speak of its structs. No promise cites it. Assumes nothing.
use Rattle.std.specs.Prelude.{◌≡◌, ℕ, ◌/◌}
use Rattle.criteria.specs.Choice.{Floor}
use Rattle.criteria.specs.Fraction.{gcd}
use Rattle.walk.specs.declared.Totals.{Totals}
use Rattle.promise.specs.declared.AveragePlan.{AveragePlan}

-- n/d over its common divisor, with the floor and the totals
pub record Reduced (n d B : ℕ) (t : Totals) (r : AveragePlan) : Type 0 where
  pub n_is : r.n ≡ n / gcd n d
  pub d_is : r.d ≡ d / gcd n d
  pub totals : r.totals ≡ t
  pub floor : Floor r.n r.d B t.distortion.0 t.rate.0 r.floor.0
