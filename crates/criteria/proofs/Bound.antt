-- What a multiplier plan proves of every allowed sequence, and of every other multiplier (demand 3). Assumes nothing.
use mathlib.Core.Path.{◌≡◌, refl, ap}
use mathlib.Core.List.{List}
use Prim.Native.Nat.{ℕ, zero, suc, ◌+◌, ◌-◌, ◌*◌, ◌≤◌, ◌<◌}
use native.Mathlib.Nat.{mul-le-mul_left, mul-lt-mul_of_pos_left, le_of_mul-le-mul_left}
use native.Mathlib.Decide.{dec_le, dec_lt}
use native.Mathlib.Omega.{arith}
use Rattle.criteria.specs.Order.{Then, lower, tie}
use Rattle.criteria.specs.Found.{Certificate, at_zero, tied}
use Rattle.criteria.specs.Choice.{Problem, Multiplier, Average, Floor, cost}
use Rattle.criteria.proofs.Order.{then_le}
use Rattle.criteria.proofs.Fraction.{rearrange, rearrange_strict}

module _ (P : Problem) where
  -- a multiplier plan costs no more than any allowed sequence
  pub cheapest : (n d : ℕ) {s : List ℕ} → Multiplier P n d s → (t : List ℕ) → P.allowed t → cost P n d s ≤ cost P n d t
  cheapest n d p t a = then_le (p.ahead t a)

  -- (i) no allowed sequence within B has a distortion below the floor
  pub floor_below : (n d B F : ℕ) {s : List ℕ} → Multiplier P n d s → Floor n d B (P.distortion s) (P.rate s) F →
      (t : List ℕ) → P.allowed t → P.rate t ≤ B → F ≤ P.distortion t
  floor_below n d B F p f t a h = f.least (P.distortion t) (omega (arith, cheapest n d p t a, mul-le-mul_left n h))

  -- (ii) nor one below the plan's by more than n/d for each unit of budget that the plan leaves
  pub gap : (n d B : ℕ) {s : List ℕ} → Multiplier P n d s → P.rate s ≤ B →
      (t : List ℕ) → P.allowed t → P.rate t ≤ B → d * P.distortion s ≤ d * P.distortion t + n * (B - P.rate s)
  gap n d B {s} p g t a h =
      let e : (B - P.rate s) + P.rate s ≡ B = omega arith in
      omega (arith, cheapest n d p t a, mul-le-mul_left n h, ap (λ (x : ℕ). n * x) e)

  -- of two multiplier plans the one at the higher multiplier has no higher rate ...
  pub rate_falls : (n d n' d' : ℕ) {s s' : List ℕ} → 1 ≤ d → Multiplier P n d s → Multiplier P n' d' s' →
      n * d' ≤ n' * d → P.rate s' ≤ P.rate s
  rate_falls n d n' d' {s} {s'} k p p' h = falls (dec_le (P.rate s') (P.rate s)) (p'.ahead s p.one)
    where
      falls : Dec (P.rate s' ≤ P.rate s) → {F : Type 0} → Then (cost P n' d' s') (cost P n' d' s) (Then (P.rate s') (P.rate s) F) →
          P.rate s' ≤ P.rate s
      falls (yes g) q = g
      falls (no g) (tie e q) = then_le q
      falls (no g) (lower q) = omega (
        arith,
        mul-lt-mul_of_pos_left q k,
        mul-le-mul_left d' (cheapest n d p s' p'.one),
        rearrange (n * d') (n' * d) (P.rate s) (P.rate s') h (omega arith),
      )

  -- ... and no lower distortion
  pub distortion_rises : (n d n' d' : ℕ) {s s' : List ℕ} → 1 ≤ d → Multiplier P n d s → Multiplier P n' d' s' →
      n * d' ≤ n' * d → P.distortion s ≤ P.distortion s'
  distortion_rises n d n' d' {s} {s'} k p p' h =
      le_of_mul-le-mul_left {k = d} (omega (arith, cheapest n d p s' p'.one, mul-le-mul_left n (rate_falls n d n' d' k p p' h))) k

  -- (iv) no multiplier whose plan fits does better than the average plan
  pub least_distortion : {B n d : ℕ} {s : List ℕ} → Average P B n d s → (n' d' : ℕ) {s' : List ℕ} → 1 ≤ d' → Multiplier P n' d' s' →
      P.rate s' ≤ B → P.distortion s ≤ P.distortion s'
  least_distortion {n = n} {d = d} a n' d' {s'} k p' h =
      distortion_rises n d n' d' a.lowest.whole a.plan p' (a.least n' d' s' k p' h)

  pub certified : {n d B : ℕ} {s : List ℕ} → Certificate P n d B s → Multiplier P n d s →
      (n' d' : ℕ) (s' : List ℕ) → 1 ≤ d' → Multiplier P n' d' s' → P.rate s' ≤ B → n * d' ≤ n' * d
  certified (at_zero e) p n' d' s' k p' h = rw e (omega arith)
  certified {n} {d} {B} {s} (tied t a above e) p n' d' s' k p' h = by_order (dec_le (n * d') (n' * d))
    where
      by_order : Dec (n * d' ≤ n' * d) → n * d' ≤ n' * d
      by_order (yes g) = g
      by_order (no g) = absurd (omega (
        arith,
        rearrange_strict (n' * d) (n * d') (P.rate s') (P.rate t) (omega arith) (omega arith),
        mul-le-mul_left d (cheapest n' d' p' t a),
        mul-le-mul_left d' (cheapest n d p s' p'.one),
        ap (λ (x : ℕ). d' * x) e,
      ))

  -- what a sequence of the plan's cost shows of another multiplier, if it lies on the right side of B
  other : (n d B F n' d' : ℕ) {s' t : List ℕ} → 1 ≤ d → cost P n d t ≤ d * F + n * B → P.allowed t → Multiplier P n' d' s' →
      n' * d * P.rate t + n * d' * B ≤ n' * d * B + n * d' * P.rate t → cost P n' d' s' ≤ d' * F + n' * B
  other n d B F n' d' {s'} {t} k f a p' h =
      le_of_mul-le-mul_left {k = d} (omega (arith, h, mul-le-mul_left d (cheapest n' d' p' t a), mul-le-mul_left d' f)) k

  -- (iii) no multiplier proves a higher floor than the certified one
  pub floor_most : (n d B F : ℕ) {s : List ℕ} → 1 ≤ d → Multiplier P n d s → P.rate s ≤ B → Certificate P n d B s →
      Floor n d B (P.distortion s) (P.rate s) F →
      (n' d' : ℕ) {s' : List ℕ} → Multiplier P n' d' s' → cost P n' d' s' ≤ d' * F + n' * B
  floor_most n d B F {s} k p h c f n' d' {s'} p' = by_order (dec_le (n * d') (n' * d)) c
    where
      by_order : Dec (n * d' ≤ n' * d) → Certificate P n d B s → cost P n' d' s' ≤ d' * F + n' * B
      by_order (yes g) c = other n d B F n' d' k f.holds p.one p' (omega (arith, rearrange (n * d') (n' * d) (P.rate s) B g h))
      by_order (no g) (at_zero e) = absurd (g (rw e (omega arith)))
      by_order (no g) (tied t a above e) = other n d B F n' d' k (omega (arith, f.holds, e)) a p'
          (omega (arith, rearrange (n' * d) (n * d') B (P.rate t) (omega arith) (omega arith)))

-- The definition of the average plan alone has a certificate, where every multiplier has a plan and the rates have a bound M: the plan
-- at a multiplier so little below n/d that it still ties with s.
module _ (P : Problem) (M : ℕ) (bounded : (t : List ℕ) → P.allowed t → P.rate t ≤ M)
    (some_plan : (n d : ℕ) → 1 ≤ d → (s : List ℕ) × Multiplier P n d s) where
  just_below : (m d B : ℕ) (s t : List ℕ) → Average P B (suc m) d s → Multiplier P (m * suc M + M) (d * suc M) t → Certificate P (suc m) d B s
  just_below m d B s t a p = tied t p.one above (omega (arith, cheapest P (suc m) d a.plan t p.one, below))
    where
      above : B < P.rate t
      above = by_order (dec_lt B (P.rate t))
        where
          by_order : Dec (B < P.rate t) → B < P.rate t
          by_order (yes g) = g
          by_order (no g) = absurd (omega (
            arith,
            a.lowest.whole,
            a.least (m * suc M + M) (d * suc M) t (omega (arith, a.lowest.whole)) p (omega arith),
          ))

      below : cost P (suc m) d t ≤ cost P (suc m) d s
      below = by_order (dec_le (cost P (suc m) d t) (cost P (suc m) d s))
        where
          by_order : Dec (cost P (suc m) d t ≤ cost P (suc m) d s) → cost P (suc m) d t ≤ cost P (suc m) d s
          by_order (yes g) = g
          by_order (no g) =
              let more : suc (cost P (suc m) d s) ≤ cost P (suc m) d t = omega arith in
              absurd (omega (arith, mul-le-mul_left (suc M) more, cheapest P (m * suc M + M) (d * suc M) p s a.plan.one, bounded t p.one))

  pub certificate : {B n d : ℕ} {s : List ℕ} → Average P B n d s → Certificate P n d B s
  certificate {n = zero} a = at_zero refl
  certificate {B} {n = suc m} {d} {s} a =
      let q = some_plan (m * suc M + M) (d * suc M) (omega (arith, a.lowest.whole)) in
      just_below m d B s q.0 a q.1
