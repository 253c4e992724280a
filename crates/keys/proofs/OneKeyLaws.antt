-- One key in place of two: how weights a and b get the order of d D + n R and then R, and what the least key then is. Assumes nothing.
use mathlib.Core.Path.{◌≡◌, sym, ap}
use mathlib.Core.Logic.{◌↔◌, ◌⊎◌, inl, inr}
use mathlib.Core.List.{List}
use Prim.Native.Nat.{ℕ, zero, suc, ◌+◌, ◌*◌, ◌≤◌, ◌<◌}
use native.Mathlib.Nat.{mul-le-mul_left, le_of_mul-le-mul_left, lt_of_mul-lt-mul_left, eq_of_mul-eq-mul_left}
use native.Mathlib.Decide.{dec_lt}
use native.Mathlib.Omega.{arith}
use Rattle.criteria.specs.Order.{Then, lower, tie, Best}
use Rattle.criteria.specs.Choice.{Problem, Multiplier, Ceiling, UnderCeiling}
use Rattle.criteria.proofs.Order.{then_le, then_tie}
use Rattle.tables.specs.Limits.{most_total}
use Rattle.keys.specs.OneKey.{Single, Near, Rising, Least, rate_first}

-- what is to be shown of a key: it goes up with k₁, and where k₁ stays, with k₂
pub single : (L : ℕ) (k k₁ k₂ : ℕ → ℕ → ℕ) →
    ((D R D' R' : ℕ) → D ≤ L → R ≤ L → D' ≤ L → R' ≤ L → k₁ D R < k₁ D' R' → k D R < k D' R') →
    ((D R D' R' : ℕ) → k₁ D R ≡ k₁ D' R' → (k D R ≤ k D' R') ↔ (k₂ D R ≤ k₂ D' R')) →
    Single L k k₁ k₂
single L k k₁ k₂ up level = record {
  order = λ D R D' R' h g h' g'. (
    by_order D R D' R' h g h' g' (dec_lt (k₁ D R) (k₁ D' R')) (dec_lt (k₁ D' R') (k₁ D R)),
    back D R D' R' h g h' g',
  );
}
  where
    by_order : (D R D' R' : ℕ) → D ≤ L → R ≤ L → D' ≤ L → R' ≤ L → Dec (k₁ D R < k₁ D' R') → Dec (k₁ D' R' < k₁ D R) →
        k D R ≤ k D' R' → Then (k₁ D R) (k₁ D' R') (k₂ D R ≤ k₂ D' R')
    by_order D R D' R' h g h' g' (yes p) q f = lower p
    by_order D R D' R' h g h' g' (no p) (yes q) f = absurd (omega (arith, up D' R' D R h' g' h g q))
    by_order D R D' R' h g h' g' (no p) (no q) f = let e : k₁ D R ≡ k₁ D' R' = omega arith in tie e ((level D R D' R' e).0 f)

    back : (D R D' R' : ℕ) → D ≤ L → R ≤ L → D' ≤ L → R' ≤ L → Then (k₁ D R) (k₁ D' R') (k₂ D R ≤ k₂ D' R') → k D R ≤ k D' R'
    back D R D' R' h g h' g' (lower p) = omega (arith, up D R D' R' h g h' g' p)
    back D R D' R' h g h' g' (tie e p) = (level D R D' R' e).1 p

-- the order of R and then D: the key is R and D as two digits
pub rising : (b L : ℕ) → L < b → Rising 1 b L
rising b L h = single L (λ D R. 1 * D + b * R) (λ D R. R) (λ D R. D)
    (λ D R D' R' l _ _ _ p. omega (arith, mul-le-mul_left {m = suc R} {n = R'} b p))
    (λ D R D' R' e. let f : b * R ≡ b * R' = ap (λ (x : ℕ). b * x) e in ((λ p. omega arith), (λ p. omega arith)))

-- Weights beside n/d. With C for d D + n R, d times the key is C and R as two digits to base a, and n times the key is C and -D as two digits to base b.
module _ (n d a b : ℕ) (beside : b * d ≡ n * a + 1) where
  as_rate : (D R : ℕ) → d * (a * D + b * R) ≡ a * (d * D + n * R) + R
  as_rate D R = omega (arith, ap (λ (x : ℕ). x * R) beside)

  as_distortion : (D R : ℕ) → n * (a * D + b * R) + D ≡ b * (d * D + n * R)
  as_distortion D R = omega (arith, ap (λ (x : ℕ). x * D) beside)

  upward : (L : ℕ) → (L < a) ⊎ (L < b) → (D R D' R' : ℕ) → D ≤ L → R ≤ L → D' ≤ L → R' ≤ L →
      d * D + n * R < d * D' + n * R' → a * D + b * R < a * D' + b * R'
  upward L (inl h) D R D' R' l m l' m' p =
      lt_of_mul-lt-mul_left d (omega (arith, as_rate D R, as_rate D' R', mul-le-mul_left {m = suc (d * D + n * R)} {n = d * D' + n * R'} a p))
  upward L (inr h) D R D' R' l m l' m' p =
      lt_of_mul-lt-mul_left n (omega (arith, as_distortion D R, as_distortion D' R', mul-le-mul_left {m = suc (d * D + n * R)} {n = d * D' + n * R'} b p))

  levelled : (D R D' R' : ℕ) → 1 ≤ d → d * D + n * R ≡ d * D' + n * R' → (a * D + b * R ≤ a * D' + b * R') ↔ (R ≤ R')
  levelled D R D' R' h e =
      let f : a * (d * D + n * R) ≡ a * (d * D' + n * R') = ap (λ (x : ℕ). a * x) e in (
        (λ p. omega (arith, as_rate D R, as_rate D' R', mul-le-mul_left d p)),
        (λ p. le_of_mul-le-mul_left {k = d} (omega (arith, as_rate D R, as_rate D' R')) h),
      )

-- the weights of a fraction with a common factor are those of its lowest terms
pub near : (n d g n₀ d₀ a b L : ℕ) → 1 ≤ d → g * n₀ ≡ n → g * d₀ ≡ d → b * d₀ ≡ n₀ * a + 1 → (L < a) ⊎ (L < b) → Near n d a b L
near n d g n₀ d₀ a b L h en ed beside over = single L (λ D R. a * D + b * R) (λ D R. d * D + n * R) (λ D R. R)
    (λ D R D' R' l m l' m' p. upward n₀ d₀ a b beside L over D R D' R' l m l' m'
    (lt_of_mul-lt-mul_left g (omega (arith, scaled D R, scaled D' R'))))
    (λ D R D' R' e. levelled n₀ d₀ a b beside D R D' R' (pos d₀ g ed)
    (eq_of_mul-eq-mul_left g (pos g d₀ (omega arith)) (d₀ * D + n₀ * R) (d₀ * D' + n₀ * R') (omega (arith, scaled D R, scaled D' R'))))
  where
    scaled : (D R : ℕ) → g * (d₀ * D + n₀ * R) ≡ d * D + n * R
    scaled D R = omega (arith, ap (λ (x : ℕ). x * R) en, ap (λ (x : ℕ). x * D) ed)

    pos : (x y : ℕ) → y * x ≡ d → 1 ≤ x
    pos zero y e = absurd (omega arith)
    pos (suc x) y e = omega arith

-- where x and y are in the order of a, b and then c, d, whatever comes after the one comes after the other
one_then : {x y a b c d : ℕ} {F : Type 0} → ((x ≤ y) ↔ Then a b (c ≤ d)) → ((y ≤ x) ↔ Then b a (d ≤ c)) → Then x y F ↔ Then a b (Then c d F)
one_then {x} {y} {a} {b} {c} {d} {F} to fro = ((λ p. forth p (to.0 (then_le p)) (dec_lt c d)), (λ p. back (dec_lt x y) p))
  where
    forth : Then x y F → Then a b (c ≤ d) → Dec (c < d) → Then a b (Then c d F)
    forth p (lower h) l = lower h
    forth p (tie e q) (yes l) = tie e (lower l)
    forth p (tie e q) (no l) = tie e (tie (omega arith) (then_tie p (fro.1 (tie (sym e) (omega arith)))))

    weak : Then a b (Then c d F) → Then a b (c ≤ d)
    weak (lower h) = lower h
    weak (tie e q) = tie e (then_le q)

    back : Dec (x < y) → Then a b (Then c d F) → Then x y F
    back (yes h) p = lower h
    back (no h) p =
        let q = fro.0 (omega arith) in
        tie (omega (arith, to.1 (weak p))) (then_tie (then_tie p (then_le q)) (then_tie q (then_le p)))

-- The least of one key is the best of two.
module _ (C : List ℕ → Type 0) (L : ℕ) (D R : List ℕ → ℕ) (small : (t : List ℕ) → C t → (D t ≤ L) × (R t ≤ L))
    (k k₁ k₂ : ℕ → ℕ → ℕ) (one_key : Single L k k₁ k₂) where
  order_of : (s t : List ℕ) → C s → C t →
      (k (D s) (R s) ≤ k (D t) (R t)) ↔ Then (k₁ (D s) (R s)) (k₁ (D t) (R t)) (k₂ (D s) (R s) ≤ k₂ (D t) (R t))
  order_of s t c c' = one_key.order (D s) (R s) (D t) (R t) (small s c).0 (small s c).1 (small t c').0 (small t c').1

  pub one_for_two : (s : List ℕ) → Least C (λ t. k (D t) (R t)) s ↔ Best C (λ t. k₁ (D t) (R t)) (λ t. k₂ (D t) (R t)) s
  one_for_two s = (
    (λ p. record { one = p.one; ahead = λ t c. (one_then (order_of s t p.one c) (order_of t s c p.one)).0 (p.ahead t c) }),
    (λ p. record { one = p.one; ahead = λ t c. (one_then (order_of s t p.one c) (order_of t s c p.one)).1 (p.ahead t c) }),
  )

module _ (P : Problem) (L : ℕ) (small : (t : List ℕ) → P.allowed t → (P.distortion t ≤ L) × (P.rate t ≤ L)) where
  pub multiplier_by_key : (n d a b : ℕ) → Near n d a b L → (s : List ℕ) →
      Least P.allowed (λ t. a * P.distortion t + b * P.rate t) s ↔ Multiplier P n d s
  multiplier_by_key n d a b h =
      one_for_two P.allowed L P.distortion P.rate small (λ D R. a * D + b * R) (λ D R. d * D + n * R) (λ D R. R) h

  pub ceiling_by_key : (X a b : ℕ) → Rising a b L → (s : List ℕ) →
      Least (UnderCeiling P X) (λ t. a * P.distortion t + b * P.rate t) s ↔ Ceiling P X s
  ceiling_by_key X a b h =
      one_for_two (UnderCeiling P X) L P.distortion P.rate (λ t w. small t w.0) (λ D R. a * D + b * R) (λ D R. R) (λ D R. D) h

-- the weights of rates before distortions
pub rates_first : Rising 1 rate_first most_total
rates_first = rising rate_first most_total (omega arith)
