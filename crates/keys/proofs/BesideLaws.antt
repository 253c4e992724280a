-- The lowest terms of a fraction and the fraction just above them, by those of the remainder; and the weights that they give. Assumes nothing.
use mathlib.Core.Path.{◌≡◌, ap}
use mathlib.Core.Logic.{inl, inr}
use Prim.Native.Nat.{ℕ, zero, suc, ◌+◌, ◌-◌, ◌*◌, ◌/◌, ◌%◌, ◌≤◌, ◌<◌}
use native.Mathlib.Nat.{mul-le-mul_left, mul-le-mul_right, le_of_mul-le-mul_left, lt_of_mul-lt-mul_left, mod-add-div'}
use native.Mathlib.Omega.{arith}
use Rattle.tables.specs.Limits.{most_total, most_term}
use Rattle.keys.specs.OneKey.{Beside, Raised, Weighed}
use Rattle.keys.proofs.OneKeyLaws.{near}

-- a product that is not zero has no factor zero
factor : (x y : ℕ) → 1 ≤ x * y → 1 ≤ x
factor zero y h = absurd (omega arith)
factor (suc x) y h = omega arith

-- the step from r/n to n/d, where d is k n + r
module _ (n d k r g r₀ n₀ x y : ℕ) (some : 1 ≤ d) (whole : k * n + r ≡ d) (b : Beside r n g r₀ n₀ x y) where
  abbrev d₀ : ℕ
  d₀ = k * n₀ + r₀

  is_d : g * d₀ ≡ d
  is_d = omega (arith, b.over, ap (λ (z : ℕ). k * z) b.under)

  some_g : 1 ≤ g
  some_g = factor g d₀ (omega (arith, is_d))

  some_d₀ : 1 ≤ d₀
  some_d₀ = factor d₀ g (omega (arith, is_d))

  pub whole_fits : k * n₀ + r₀ ≤ d
  whole_fits = omega (arith, is_d, mul-le-mul_right d₀ some_g)

  some_x : 1 ≤ x
  some_x = factor x n₀ (omega (arith, b.beside))

  -- the new d', d₀ - (x + k y), and the new n', n₀ - y, are beside: n' d₀ is n₀ d' + 1
  short : (x + k * y) * n₀ + d₀ * (n₀ - y) ≡ d₀ * n₀ + 1
  short = let e : (n₀ - y) + y ≡ n₀ = omega (arith, b.inside) in
      omega (arith, b.beside, ap (λ (z : ℕ). d₀ * z) e, ap (λ (z : ℕ). k * y * z) e)

  pub left_fits : x + k * y ≤ k * n₀ + r₀
  left_fits = le_of_mul-le-mul_left {k = n₀} (omega (arith, short, mul-le-mul_left {m = 1} {n = n₀ - y} d₀ (omega (arith, b.inside)), some_d₀)) (omega (arith, b.inside))

  pub further : Beside n d g n₀ (k * n₀ + r₀) (n₀ - y) (k * n₀ + r₀ - (x + k * y))
  further = record {
    over = b.under;
    under = is_d;
    beside =
        let e : (d₀ - (x + k * y)) + (x + k * y) ≡ d₀ = omega (arith, left_fits) in
        omega (arith, short, ap (λ (z : ℕ). n₀ * z) e);
    inside = omega (arith, left_fits, some_x, some_d₀);
  }

-- the sizes on the way
pub record Sizes (d k r₀ n₀ x y : ℕ) : Type 0 where
  pub whole : k * n₀ + r₀ ≤ d
  pub left : x + k * y ≤ k * n₀ + r₀

divided : (n d : ℕ) → d / n * n + d % n ≡ d
divided n d = omega (arith, mod-add-div' d n)

pub sizes : (d : ℕ) {n g r₀ n₀ x y : ℕ} → 1 ≤ d → Beside (d % n) n g r₀ n₀ x y → Sizes d (d / n) r₀ n₀ x y
sizes d {n} {g} {r₀} {n₀} {x} {y} h b = record {
  whole = whole_fits n d (d / n) (d % n) g r₀ n₀ x y h (divided n d) b;
  left = left_fits n d (d / n) (d % n) g r₀ n₀ x y h (divided n d) b;
}

pub next : (d : ℕ) {n g r₀ n₀ x y : ℕ} → 1 ≤ d → Beside (d % n) n g r₀ n₀ x y →
    Beside n d g n₀ (d / n * n₀ + r₀) (n₀ - y) (d / n * n₀ + r₀ - (x + d / n * y))
next d {n} {g} {r₀} {n₀} {x} {y} h b = further n d (d / n) (d % n) g r₀ n₀ x y h (divided n d) b

-- the numerator of the fraction just above is at most one step up
pub near_up : {n d g n₀ d₀ n' d' : ℕ} → Beside n d g n₀ d₀ n' d' → n' ≤ n₀ + 1
near_up {n₀ = n₀} {d₀ = d₀} {n' = n'} {d' = d'} b =
    le_of_mul-le-mul_left {k = d₀} (omega (arith, b.beside, b.inside, mul-le-mul_left {m = d'} {n = d₀} n₀ (omega (arith, b.inside)))) (omega (arith, b.inside))

lowest_small : {n d g n₀ d₀ n' d' : ℕ} → 1 ≤ d → Beside n d g n₀ d₀ n' d' → (n₀ ≤ n) × (d₀ ≤ d)
lowest_small {n} {d} {g} {n₀} {d₀} h b =
    let p : 1 ≤ g = factor g d₀ (omega (arith, b.under)) in
    (omega (arith, b.over, mul-le-mul_right n₀ p), omega (arith, b.under, mul-le-mul_right d₀ p))

-- s steps in the greater of the lowest terms
pub data GreaterRaised (n₀ d₀ n' d' s : ℕ) : Type 0 where
  by_d : n₀ < d₀ → Raised d' d₀ s → GreaterRaised n₀ d₀ n' d' s
  by_n : d₀ ≤ n₀ → Raised n' n₀ s → GreaterRaised n₀ d₀ n' d' s

pub weighed_by : {n d g n₀ d₀ n' d' s : ℕ} → n ≤ most_term → 1 ≤ d → d ≤ most_term → Beside n d g n₀ d₀ n' d' → GreaterRaised n₀ d₀ n' d' s →
    Weighed n d (d' + s * d₀) (n' + s * n₀)
weighed_by {n} {d} {g} {n₀} {d₀} {n'} {d'} {s} hn h hd b (by_d l r) =
    let f = lowest_small h b in
    let e : (n' + s * n₀) * d₀ ≡ n₀ * (d' + s * d₀) + 1 = omega (arith, b.beside) in
    let m : n' + s * n₀ ≤ d' + s * d₀ + 1 = le_of_mul-le-mul_left {k = d₀} (omega (arith, e, mul-le-mul_right {m = n₀} {n = d₀} (d' + s * d₀) (omega arith))) (omega arith) in
    record {
      near = near n d g n₀ d₀ (d' + s * d₀) (n' + s * n₀) most_total h b.over b.under e (inl r.far);
      small_a = omega (arith, r.near);
      small_b = omega (arith, r.near, m);
    }
weighed_by {n} {d} {g} {n₀} {d₀} {n'} {d'} {s} hn h hd b (by_n l r) =
    let f = lowest_small h b in
    let e : (n' + s * n₀) * d₀ ≡ n₀ * (d' + s * d₀) + 1 = omega (arith, b.beside) in
    let m : d' + s * d₀ < n' + s * n₀ = lt_of_mul-lt-mul_left n₀ (omega (arith, e, mul-le-mul_left {m = d₀} {n = n₀} (n' + s * n₀) l)) in
    record {
      near = near n d g n₀ d₀ (d' + s * d₀) (n' + s * n₀) most_total h b.over b.under e (inr r.far);
      small_a = omega (arith, r.near, m);
      small_b = omega (arith, r.near);
    }
