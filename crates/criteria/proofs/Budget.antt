-- More budget never hurts: the average and the minmax plans of one problem at budgets B and B', B ≤ B' (document 02, [14]). Assumes nothing.
use mathlib.Core.List.{List}
use Prim.Native.Nat.{ℕ, ◌*◌, ◌≤◌}
use native.Mathlib.Nat.{mul-le-mul_left, le_trans}
use native.Mathlib.Omega.{arith}
use Rattle.criteria.specs.Choice.{Problem, Average, AverageFloor, Minmax}
use Rattle.criteria.proofs.Order.{then_le}
use Rattle.criteria.proofs.Bound.{rate_falls, least_distortion}
use Rattle.criteria.proofs.Finite.{Finite}
use Rattle.criteria.proofs.Demand.{average_floor}
use Rattle.criteria.proofs.Exist.{some_average, some_minmax}

module _ (P : Problem) {B B' : ℕ} (more : B ≤ B') where
  module _ {n d n' d' : ℕ} {s s' : List ℕ} (a : Average P B n d s) (a' : Average P B' n' d' s') where
    pub multiplier_falls : n' * d ≤ n * d'
    multiplier_falls = a'.least n d s a.lowest.whole a.plan (omega (arith, a.fits))

    pub rate_rises : P.rate s ≤ P.rate s'
    rate_rises = rate_falls P n' d' n d a'.lowest.whole a'.plan a.plan multiplier_falls

    pub distortion_falls : P.distortion s' ≤ P.distortion s
    distortion_falls = least_distortion P a' n d a.lowest.whole a.plan (omega (arith, a.fits))

    pub floor_falls : Finite P → {F F' : ℕ} → AverageFloor P B n d s F → AverageFloor P B' n' d' s' F' → F' ≤ F
    floor_falls fin {F} f f' = f'.least F (omega (arith, average_floor P fin a f n' d' a'.plan, mul-le-mul_left n' more))

  module _ {X X' : ℕ} {s s' : List ℕ} (m : Minmax P B X s) (m' : Minmax P B' X' s') where
    pub ceiling_falls : X' ≤ X
    ceiling_falls = m'.least X m.some_fits.0 m.some_fits.1 (omega (arith, m.some_fits.2))

    pub minmax_rate_rises : P.rate s ≤ P.rate s'
    minmax_rate_rises = then_le (m.plan.ahead s' (m'.plan.one.0, omega (arith, m'.plan.one.1, ceiling_falls)))

  -- a plan given stays given
  module _ (fin : Finite P) where
    pub average_stays : {n d : ℕ} {s : List ℕ} → Average P B n d s → (n' : ℕ) × (d' : ℕ) × (s' : List ℕ) × Average P B' n' d' s'
    average_stays {s = s} a = some_average P fin B' s (a.plan.one, le_trans a.fits more)

    pub minmax_stays : {X : ℕ} {s : List ℕ} → Minmax P B X s → (X' : ℕ) × (s' : List ℕ) × Minmax P B' X' s'
    minmax_stays m = some_minmax P fin B' m.some_fits.0 (m.some_fits.1.0, le_trans m.some_fits.2 more)
