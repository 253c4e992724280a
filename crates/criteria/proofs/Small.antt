-- The average plan's multiplier is made of small numbers: n is at most a distortion, d at most a rate (or 1). Assumes nothing.
use mathlib.Core.Path.{◌≡◌, ap}
use mathlib.Core.List.{List}
use Prim.Native.Nat.{ℕ, zero, suc, ◌+◌, ◌-◌, ◌*◌, ◌≤◌, ◌<◌}
use native.Mathlib.Nat.{le_of_dvd, dvd-mul_right, dvd-zero, dvd_refl, mul-lt-mul_of_pos_left, lt_of_mul-lt-mul_left}
use native.Mathlib.Omega.{arith}
use Rattle.criteria.specs.Fraction.{Lowest}
use Rattle.criteria.specs.Choice.{Problem, Average}
use Rattle.criteria.proofs.Fraction.{lowest_divides}
use Rattle.criteria.specs.Found.{Certificate, at_zero, tied}

-- a fraction in lowest terms is no greater, part by part, than one that it equals
lowest_least : {n d : ℕ} (x y : ℕ) → Lowest n d → n * y ≡ d * x → 0 < x → 0 < y → (n ≤ x) × (d ≤ y)
lowest_least {n} {d} x y l e px py = (
  le_of_dvd px (lowest_divides l x n (dvd-mul_right n x) (rw (← e) (dvd-mul_right n y))),
  le_of_dvd py (lowest_divides l y d (rw e (dvd-mul_right d x)) (dvd-mul_right d y)),
)

module _ (P : Problem) where
  pub average_small : {B n d : ℕ} {s : List ℕ} → Average P B n d s → Certificate P n d B s → (M K : ℕ) →
      ((t : List ℕ) → P.allowed t → P.rate t ≤ M) → P.distortion s ≤ K → 1 ≤ M → (n ≤ K) × (d ≤ M)
  average_small {n = zero} {d} a c M K bound h one = (omega arith, omega (arith, a.lowest.common d (dvd-zero d) (dvd_refl d)))
  average_small {n = suc m} a (at_zero e) M K bound h one = absurd (omega arith)
  average_small {B} {n = suc m} {d} {s} a (tied t c above e) M K bound h one =
      let y : P.rate t ≡ P.rate s + (P.rate t - P.rate s) = omega (arith, a.fits) in
      let low : P.distortion t < P.distortion s =
      lt_of_mul-lt-mul_left d (omega (arith, mul-lt-mul_of_pos_left {m = P.rate s} {n = P.rate t} {k = suc m} (omega (arith, a.fits)) (omega arith))) in
      let x : P.distortion s ≡ P.distortion t + (P.distortion s - P.distortion t) = omega arith in
      let r = lowest_least (P.distortion s - P.distortion t) (P.rate t - P.rate s) a.lowest
      (omega (arith, ap (λ (z : ℕ). suc m * z) y, ap (λ (z : ℕ). d * z) x)) (omega arith) (omega (arith, a.fits)) in
      (omega (arith, r.0), omega (arith, r.1, bound t c))
