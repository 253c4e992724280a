-- Laws of products and fractions of natural numbers. Assumes nothing.
use mathlib.Core.Path.{◌≡◌, refl, ap}
use Prim.Native.Nat.{ℕ, zero, suc, ◌+◌, ◌-◌, ◌*◌, ◌/◌, ◌%◌, ◌≤◌, ◌<◌, ◌∣◌}
use native.Mathlib.Nat.{dvd_antisymm, dvd-mul_left, dvd-mul_right, dvd-zero, dvd_refl, dvd-add_iff_right, dvd-mul_left_of_dvd, dvd-mod_iff, mod-lt, mod-add-div', eq_of_mul-eq-mul_left, eq-one_of_dvd-one}
use native.Mathlib.Omega.{arith}
use Rattle.criteria.specs.Fraction.{Lowest, gcd, gcd_by}

widened : (a e x f : ℕ) → a * (x + f) + (a + e) * x ≤ a * x + (a + e) * (x + f)
widened a e x f = omega arith

-- the greater times the greater and the less times the less are together the most
pub rearrange : (a b x y : ℕ) → a ≤ b → x ≤ y → a * y + b * x ≤ a * x + b * y
rearrange a b x y h g =
    let e : a + (b - a) ≡ b = omega arith in
    let f : x + (y - x) ≡ y = omega arith in
    rw (e, f) at (widened a (b - a) x (y - x))

pub rearrange_strict : (a b x y : ℕ) → a < b → x < y → a * y + b * x < a * x + b * y
rearrange_strict a b x y h g = omega (arith, rearrange (suc a) b (suc x) y h g)

-- g divides a and b, and whatever divides a m and b m divides g m
pub record Divisor (a b g : ℕ) : Type 0 where
  pub left : g ∣ a
  pub right : g ∣ b
  pub most : (m k : ℕ) → k ∣ a * m → k ∣ b * m → k ∣ g * m

zeroth : (a : ℕ) → Divisor a zero a
zeroth a = record { left = dvd_refl a; right = dvd-zero a; most = λ m k p q. p }

remainder : (a b g : ℕ) → Divisor (suc b) (a % suc b) g → Divisor a (suc b) g
remainder a b g r = record {
  left = (dvd-mod_iff g r.left).0 r.right;
  right = r.left;
  most = λ m k p q.
      let e : a * m ≡ a / suc b * (suc b * m) + a % suc b * m = omega (arith, ap (λ (x : ℕ). x * m) (mod-add-div' a (suc b))) in
      r.most m k q ((dvd-add_iff_right k (dvd-mul_left_of_dvd k q (a / suc b))).1 (rw e at p));
}

divisor : (k a b : ℕ) → b ≤ k → Divisor a b (gcd_by k a b)
divisor zero a b h = let e : b ≡ zero = omega arith in rw e (zeroth a)
divisor (suc k) a zero h = zeroth a
divisor (suc k) a (suc b) h = remainder a b (gcd_by k (suc b) (a % suc b)) (divisor k (suc b) (a % suc b) (omega (arith, mod-lt a {m = suc b} (omega arith))))

pub gcd_is : (a b : ℕ) → Divisor a b (gcd a b)
gcd_is a b = divisor b a b (omega arith)

pub lowest_gcd : (n d : ℕ) → 1 ≤ d → gcd n d ≡ 1 → Lowest n d
lowest_gcd n d h e = record {
  whole = h;
  common = λ k p q.
      let a : n * 1 ≡ n = omega arith in
      let b : d * 1 ≡ d = omega arith in
      let c : gcd n d * 1 ≡ 1 = omega arith in
      eq-one_of_dvd-one (rw c at ((gcd_is n d).most 1 k (rw a p) (rw b q)));
}

-- what divides n m and d m divides m, where n/d is in lowest terms
pub lowest_divides : {n d : ℕ} → Lowest n d → (m k : ℕ) → k ∣ n * m → k ∣ d * m → k ∣ m
lowest_divides {n} {d} l m k p q =
    let r = gcd_is n d in
    let e : gcd n d * m ≡ m = rw (l.common (gcd n d) r.left r.right) (omega arith) in
    rw e at (r.most m k p q)

-- two fractions in lowest terms that are equal are the same
pub lowest_unique : {n d n' d' : ℕ} → Lowest n d → Lowest n' d' → n * d' ≡ n' * d → (n ≡ n') × (d ≡ d')
lowest_unique {n} {d} {n'} {d'} l l' e =
    let p : d ∣ d' = lowest_divides l d' d (rw e (dvd-mul_left d n')) (dvd-mul_right d d') in
    let q : d' ∣ d = lowest_divides l' d d' (rw (← e) (dvd-mul_left d' n)) (dvd-mul_right d' d) in
    let same : d ≡ d' = dvd_antisymm p q in
    (eq_of_mul-eq-mul_left d l.whole n n' (omega (arith, ap (λ (x : ℕ). n * x) same)), same)

-- the remainder rule: how many remainders are allowed does not matter once there are enough
gcd_enough : (k k' a b : ℕ) → b ≤ k → b ≤ k' → gcd_by k a b ≡ gcd_by k' a b
gcd_enough zero zero a b h h' = refl
gcd_enough zero (suc k') a zero h h' = refl
gcd_enough zero (suc k') a (suc b) h h' = absurd (omega arith)
gcd_enough (suc k) zero a zero h h' = refl
gcd_enough (suc k) zero a (suc b) h h' = absurd (omega arith)
gcd_enough (suc k) (suc k') a zero h h' = refl
gcd_enough (suc k) (suc k') a (suc b) h h' =
    let r = mod-lt a {m = suc b} (omega arith) in
    gcd_enough k k' (suc b) (a % suc b) (omega arith) (omega arith)

pub gcd_rule : (a b : ℕ) → 1 ≤ b → gcd a b ≡ gcd b (a % b)
gcd_rule a zero h = absurd (omega arith)
gcd_rule a (suc b) h =
    let r = mod-lt a {m = suc b} (omega arith) in
    gcd_enough b (a % suc b) (suc b) (a % suc b) (omega arith) (omega arith)
