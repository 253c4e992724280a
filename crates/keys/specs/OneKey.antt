-- One key in place of two: sums D and R up to L in the order of one number. Assumes nothing.
use Rattle.std.specs.Prelude.{◌≡◌, ◌↔◌, List, ℕ, ◌+◌, ◌*◌, ◌≤◌, ◌<◌}
use Rattle.criteria.specs.Order.{Then, First}
use Rattle.tables.specs.Limits.{most_total}

-- for D and R up to L, the order of k is that of k₁ and then k₂
pub record Single (L : ℕ) (k k₁ k₂ : ℕ → ℕ → ℕ) : Type 0 where
  pub order : (D R D' R' : ℕ) → D ≤ L → R ≤ L → D' ≤ L → R' ≤ L →
      (k D R ≤ k D' R') ↔ Then (k₁ D R) (k₁ D' R') (k₂ D R ≤ k₂ D' R')

-- a D + b R has the order of d D + n R and then R
abbrev pub Near : ℕ → ℕ → ℕ → ℕ → ℕ → Type 0
Near n d a b L = Single L (λ D R. a * D + b * R) (λ D R. d * D + n * R) (λ D R. R)

-- a D + b R has the order of R and then D
abbrev pub Rising : ℕ → ℕ → ℕ → Type 0
Rising a b L = Single L (λ D R. a * D + b * R) (λ D R. R) (λ D R. D)

-- what a weight stays below: 31 bits
abbrev pub weight_bound : ℕ
weight_bound = 2147483648

-- weights of n/d
pub record Weighed (n d a b : ℕ) : Type 0 where
  pub near : Near n d a b most_total
  pub small_a : a < weight_bound
  pub small_b : b < weight_bound

-- the weight of a rate that counts before every distortion, beside the weight 1 of a distortion
abbrev pub rate_first : ℕ
rate_first = 1073741824

-- n/d is g n₀ / g d₀, and n'/d' is next above it: n' d₀ - n₀ d' is 1 (above 0/1 it is 1/0)
pub record Beside (n d g n₀ d₀ n' d' : ℕ) : Type 0 where
  pub over : g * n₀ ≡ n
  pub under : g * d₀ ≡ d
  pub beside : n' * d₀ ≡ n₀ * d' + 1
  pub inside : d' < d₀

-- s steps of y bring x over the most that a total comes to, and no further than the last
pub record Raised (x y s : ℕ) : Type 0 where
  pub far : most_total < x + s * y
  pub near : x + s * y ≤ most_total + y

-- among the candidates: the least k, then the first
pub record Least (candidate : List ℕ → Type 0) (k : List ℕ → ℕ) (s : List ℕ) : Type 0 where
  pub one : candidate s
  pub ahead : (t : List ℕ) → candidate t → Then (k s) (k t) (First s t)
