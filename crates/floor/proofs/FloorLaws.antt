-- The floor and the lowest terms, as the code computes them. Assumes nothing.
use mathlib.Core.Path.{◌≡◌, refl, ap}
use Prim.Native.Nat.{ℕ, ◌+◌, ◌-◌, ◌*◌, ◌/◌, ◌≤◌, ◌<◌, ◌^◌}
use native.Mathlib.Nat.{mul-le-mul_right, div-le_self, dvd-mul_left, pos_of_dvd_of_pos, mul-div_cancel'}
use native.Mathlib.Omega.{arith}
use Rattle.criteria.specs.Choice.{Floor}
use Rattle.criteria.specs.Fraction.{gcd}
use Rattle.criteria.proofs.Fraction.{gcd_is}
use Rattle.criteria.proofs.Exist.{floor_value}
use Rattle.walk.specs.declared.Totals.{Totals}
use Rattle.floor.specs.Reduced.{Reduced}

-- n and d over their common divisor: it is at least 1, and so is what is left of d
pub lowest_terms : (n d : ℕ) → 1 ≤ d → (1 ≤ gcd n d) × (1 ≤ d / gcd n d)
lowest_terms n d h =
    let r = gcd_is n d in
    let e : gcd n d * (d / gcd n d) ≡ d = mul-div_cancel' (gcd n d) r.right in
    (pos_of_dvd_of_pos r.right h, pos_of_dvd_of_pos (rw e at (dvd-mul_left (d / gcd n d) (gcd n d))) h)

-- a quotient is no more than what was divided
pub small_terms : (n d : ℕ) → (n / gcd n d ≤ n) × (d / gcd n d ≤ d)
small_terms n d = (div-le_self n (gcd n d), div-le_self d (gcd n d))

-- the floor, as the code computes it
pub floor_by : {n d B D R c F : ℕ} → 1 ≤ d → c ≡ d * D + n * R → F ≡ (c - n * B + (d - 1)) / d → Floor n d B D R F
floor_by {n} {d} {B} {D} {R} h e f = rw (f, e) (floor_value n d B D R h)

-- what a smaller multiplier buys
pub bought_small : {n n' : ℕ} (B : ℕ) → n' ≤ n → n * B < 2 ^ 64 → n' * B < 2 ^ 64
bought_small {n} {n'} B h l = omega (arith, mul-le-mul_right {m = n'} {n = n} B h)

-- the answer, as the code puts it together
pub reduced_by : {n d B g c F : ℕ} {t : Totals} → g ≡ gcd n d → 1 ≤ d / g → c ≡ d / g * t.distortion.0 + n / g * t.rate.0 →
    F ≡ (c - n / g * B + (d / g - 1)) / (d / g) → Reduced n d B t (record { n = n / g; d = d / g; floor = record { 0 = F }; totals = t })
reduced_by {n} {d} {B} {g} {c} {F} {t} e h k f = record {
  n_is = ap (λ (x : ℕ). n / x) e;
  d_is = ap (λ (x : ℕ). d / x) e;
  totals = refl;
  floor = floor_by h k f;
}
