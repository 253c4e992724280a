-- The sum and the tilt of bytes, one of which is another, or two of which are exchanged. Assumes nothing.
use mathlib.Core.Path.{◌≡◌, sym, ap, ◌∙◌}
use mathlib.Core.Logic.{◌≢◌}
use mathlib.Core.List.{List, [], ◌∷◌}
use Prim.Native.Nat.{ℕ, zero, suc, ◌+◌, ◌*◌, ◌-◌, ◌≤◌, ◌<◌}
use native.Mathlib.Nat.{eq_of_mul-eq-mul_left}
use native.Mathlib.Omega.{arith}
use lib.ListN.{length, get_or, set, length-set}
use lib.Seq.{get_or-set_other}
use Rattle.laws.proofs.Tests.{cases}
use Rattle.std.specs.List.{sum}
use Rattle.blocks.specs.BlockCheck.{tilt}
use Rattle.std.proofs.lemmas.List.Sums.{sum_by-set}
use Rattle.blocks.proofs.SumLaws.{sum_cons, tilt_cons}

-- the sum changes by what the byte changes
abbrev pub sum_set : (l : List ℕ) (k v : ℕ) → k < length l → sum (set l k v) + get_or l k 0 ≡ sum l + v
sum_set l k v h = sum_by-set (λ x. x) l k v 0 h

-- the tilt by n - k times as much
pub tilt_set : (n : ℕ) (l : List ℕ) (k v : ℕ) → k < length l → length l ≤ n → tilt n (set l k v) + (n - k) * get_or l k 0 ≡ tilt n l + (n - k) * v
tilt_set n [] k v h g = absurd (omega arith)
tilt_set zero (b ∷ l) k v h g = absurd (omega arith)
tilt_set (suc n) (b ∷ l) zero v h g =
    let e : suc n - 0 ≡ suc n = omega arith in
    rw e (omega (arith, tilt_cons n b l, tilt_cons n v l))
tilt_set (suc n) (b ∷ l) (suc k) v h g =
    let e : suc n - suc k ≡ n - k = omega arith in
    rw e (omega (arith, tilt_set n l k v (omega arith) (omega arith), tilt_cons n b l, tilt_cons n b (set l k v)))

-- every byte counts at least once, and the byte at k a further n - k - 1 times
pub sum_below : (n : ℕ) (l : List ℕ) → length l ≤ n → sum l ≤ tilt n l
sum_below n [] g = omega arith
sum_below zero (b ∷ l) g = absurd (omega arith)
sum_below (suc n) (b ∷ l) g = omega (arith, sum_below n l (omega arith), tilt_cons n b l, sum_cons b l)

pub tilt_over : (n : ℕ) (l : List ℕ) (k : ℕ) → k < length l → length l ≤ n → sum l + (n - suc k) * get_or l k 0 ≤ tilt n l
tilt_over n [] k h g = absurd (omega arith)
tilt_over zero (b ∷ l) k h g = absurd (omega arith)
tilt_over (suc n) (b ∷ l) zero h g =
    let e : suc n - 1 ≡ n = omega arith in
    rw e (omega (arith, sum_below n l (omega arith), tilt_cons n b l, sum_cons b l))
tilt_over (suc n) (b ∷ l) (suc k) h g =
    let e : suc n - suc (suc k) ≡ n - suc k = omega arith in
    rw e (omega (arith, tilt_over n l k (omega arith) (omega arith), tilt_cons n b l, sum_cons b l))

-- so another byte makes another tilt
pub changed_tilt : (n : ℕ) (l : List ℕ) (k v : ℕ) → k < length l → length l ≤ n → v ≢ get_or l k 0 → tilt n (set l k v) ≢ tilt n l
changed_tilt n l k v h g other e =
    other (eq_of_mul-eq-mul_left (n - k) (omega arith) v (get_or l k 0) (omega (arith, tilt_set n l k v h g, e)))

-- two numbers that count x and y times, and the other way round, and make the same are the same
crossed : (x y p q : ℕ) → x < y → x * p + y * q ≡ y * p + x * q → p ≡ q
crossed x y p q h e =
    let d : ℕ = y - x in
    let s : y ≡ x + d = omega arith in
    let f : x * p + (x + d) * q ≡ (x + d) * p + x * q = rw (← s) e in
    eq_of_mul-eq-mul_left d (omega arith) p q (omega (arith, f))

crossed_either : (x y p q : ℕ) → x ≢ y → x * p + y * q ≡ y * p + x * q → p ≡ q
crossed_either x y p q ne e =
    cases x y (λ h. crossed x y p q h e) (λ h. crossed y x p q (omega (arith, ne, h)) (sym e))

module _ (l : List ℕ) (j k : ℕ) (hj : j < length l) (hk : k < length l) (ne : get_or l j 0 ≢ get_or l k 0) where
  -- the bytes with two of them exchanged
  abbrev swapped : List ℕ
  swapped = set (set l j (get_or l k 0)) k (get_or l j 0)

  -- they stand at two places
  apart : j ≢ k
  apart e = ne (ap (λ (i : ℕ). get_or l i 0) e)

  -- the second is still there when the first is stored
  still : get_or (set l j (get_or l k 0)) k 0 ≡ get_or l k 0
  still = get_or-set_other l j k (get_or l k 0) 0 (λ e. apart (sym e))

  within : k < length (set l j (get_or l k 0))
  within = rw (length-set l j (get_or l k 0)) hk

  -- an exchange leaves the sum
  pub exchanged_sum : sum swapped ≡ sum l
  exchanged_sum = omega (arith, sum_set (set l j (get_or l k 0)) k (get_or l j 0) within, still, sum_set l j (get_or l k 0) hj)

  -- and makes another tilt
  pub exchanged_tilt : (n : ℕ) → length l ≤ n → tilt n swapped ≢ tilt n l
  exchanged_tilt n g e =
      let p : ℕ = get_or l j 0 in
      let q : ℕ = get_or l k 0 in
      let one = tilt_set n l j q hj g in
      let two : tilt n swapped + (n - k) * q ≡ tilt n (set l j q) + (n - k) * p =
      ap (λ (x : ℕ). tilt n swapped + (n - k) * x) (sym still)
      ∙ tilt_set n (set l j q) k p within (rw (length-set l j q) g) in
      ne (crossed_either (n - j) (n - k) p q (λ z. apart (omega (arith, z, hj, hk, g))) (omega (arith, one, two, e)))
