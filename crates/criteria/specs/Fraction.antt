-- Fractions: the common divisor and lowest terms. Assumes nothing.
use Rattle.std.specs.Prelude.{◌≡◌, ℕ, zero, suc, ◌%◌, ◌≤◌}
use Rattle.std.specs.Int.{◌∣◌}

-- "the remainder rule of Euclid is the public definition": the divisor of a and 0 is a, and that of a and b is that of b and the
-- remainder of a by b. It is written with a count k of remainders that may still be taken; the remainder falls, so b of them are enough.
abbrev pub gcd_by : ℕ → ℕ → ℕ → ℕ
gcd_by zero a b = a
gcd_by (suc k) a zero = a
gcd_by (suc k) a (suc b) = gcd_by k (suc b) (a % suc b)

abbrev pub gcd : ℕ → ℕ → ℕ
gcd a b = gcd_by b a b

-- "in lowest terms, zero as 0/1": d is at least 1, and 1 is the only number that divides both (of 0/d that is so at d = 1 alone)
pub record Lowest (n d : ℕ) : Type 0 where
  pub whole : 1 ≤ d
  pub common : (k : ℕ) → k ∣ n → k ∣ d → k ≡ 1
