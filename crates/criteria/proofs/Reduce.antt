-- A plan, its certificate and its leastness do not change when its fraction is reduced. Assumes nothing.
use mathlib.Core.Path.{◌≡◌, ap}
use mathlib.Core.List.{List}
use Prim.Native.Nat.{ℕ, ◌*◌, ◌/◌, ◌≤◌}
use native.Mathlib.Nat.{lt_of_mul-lt-mul_left, eq_of_mul-eq-mul_left, mul-div_cancel', mul-dvd-mul_left, dvd-mul_left, dvd_of_mul-dvd-mul_left, pos_of_dvd_of_pos, eq-one_of_dvd-one}
use native.Mathlib.Omega.{arith}
use Rattle.criteria.specs.Order.{Then, lower, tie}
use Rattle.criteria.specs.Fraction.{gcd, Lowest}
use Rattle.criteria.specs.Choice.{Problem, Multiplier, Average, cost}
use Rattle.criteria.proofs.Fraction.{Divisor, gcd_is}
use Rattle.criteria.specs.Found.{Certificate, at_zero, tied}
use Rattle.criteria.proofs.Bound.{certified}

then_unscale : {a b : ℕ} {P : Type 0} (g : ℕ) → 1 ≤ g → Then (g * a) (g * b) P → Then a b P
then_unscale g h (lower l) = lower (lt_of_mul-lt-mul_left g l)
then_unscale {a} {b} g h (tie e p) = tie (eq_of_mul-eq-mul_left g h a b e) p

-- n and d over their greatest common divisor are in lowest terms
reduced : {n d g : ℕ} (a b : ℕ) → 1 ≤ d → Divisor n d g → g * a ≡ n → g * b ≡ d → Lowest a b
reduced {n} {d} {g} a b h r ea eb = record {
  whole = pos_of_dvd_of_pos (rw eb at (dvd-mul_left b g)) h;
  common = λ k p q.
      let en : n * 1 ≡ g * a = omega arith in
      let ed : d * 1 ≡ g * b = omega arith in
      eq-one_of_dvd-one (dvd_of_mul-dvd-mul_left k (pos_of_dvd_of_pos r.right h)
      (r.most 1 (g * k) (rw en (mul-dvd-mul_left k g p)) (rw ed (mul-dvd-mul_left k g q))));
}

module _ (P : Problem) where
  -- the cost at g times a fraction is g times the cost
  scaled : (n d g a b : ℕ) → g * a ≡ n → g * b ≡ d → (t : List ℕ) → cost P n d t ≡ g * cost P a b t
  scaled n d g a b ea eb t = omega (arith, ap (λ (x : ℕ). x * P.rate t) ea, ap (λ (x : ℕ). x * P.distortion t) eb)

  average_by : (n d g a b B : ℕ) {s : List ℕ} → 1 ≤ d → Divisor n d g → g * a ≡ n → g * b ≡ d →
      Multiplier P n d s → P.rate s ≤ B → Certificate P n d B s → Average P B a b s
  average_by n d g a b B {s} h r ea eb p f c = record { plan = plan; fits = f; least = certified P (lesser c) plan; lowest = reduced a b h r ea eb }
    where
      pos : 1 ≤ g
      pos = pos_of_dvd_of_pos r.right h

      same : (t : List ℕ) → cost P n d t ≡ g * cost P a b t
      same = scaled n d g a b ea eb

      plan : Multiplier P a b s
      plan = record { one = p.one; ahead = λ t m. then_unscale g pos (rw (← (same s), ← (same t)) (p.ahead t m)) }

      lesser : Certificate P n d B s → Certificate P a b B s
      lesser (at_zero e) = at_zero (eq_of_mul-eq-mul_left g pos a 0 (omega arith))
      lesser (tied t m above e) = tied t m above (eq_of_mul-eq-mul_left g pos (cost P a b t) (cost P a b s) (cc (same t, same s)))

  -- a plan that fits, with a certificate, is the average plan at its fraction over the greatest common divisor
  pub average_reduced : (n d B : ℕ) {s : List ℕ} → 1 ≤ d → Multiplier P n d s → P.rate s ≤ B → Certificate P n d B s →
      Average P B (n / gcd n d) (d / gcd n d) s
  average_reduced n d B h p f c =
      let r = gcd_is n d in
      average_by n d (gcd n d) (n / gcd n d) (d / gcd n d) B h r (mul-div_cancel' (gcd n d) r.left) (mul-div_cancel' (gcd n d) r.right) p f c
