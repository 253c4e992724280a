-- The decimal digits of a number: the last one and those before it, and how many there are. Assumes nothing.
use mathlib.Core.Path.{◌≡◌, refl, ap, ◌∙◌}
use mathlib.Core.List.{List, [], ◌∷◌, ◌++◌}
use Prim.Native.Nat.{ℕ, zero, suc, ◌+◌, ◌/◌, ◌%◌, ◌*◌, ◌^◌, ◌≤◌, ◌<◌, max}
use native.Mathlib.Omega.{arith}
use lib.ListN.{length, length-append}
use borrow.Author.Tests.{lt-ltb, le-ltb}
use Rattle.laws.proofs.Tests.{cases}
use Rattle.exports.specs.Export.{decimal_of, decimal}

-- any k above x is as good as another
fuel : (k m x : ℕ) → x < k → x < m → decimal_of k x ≡ decimal_of m x
fuel zero m x h g = absurd (omega arith)
fuel (suc k) zero x h g = absurd (omega arith)
fuel (suc k) (suc m) x h g =
    cases x 10 (λ s. rw (lt-ltb x 10 s) refl) (λ b. rw (le-ltb x 10 b) (ap (λ (l : List ℕ). l ++ ((48 + x % 10) ∷ [])) (fuel k m (x / 10) (omega arith) (omega arith))))

-- one digit
pub decimal_one : (x : ℕ) → x < 10 → decimal x ≡ (48 + x) ∷ []
unfolding decimal
decimal_one x h = rw (lt-ltb x 10 h) refl

-- .. or several: the last behind the others
pub decimal_more : (x : ℕ) → 10 ≤ x → decimal x ≡ decimal (x / 10) ++ ((48 + x % 10) ∷ [])
unfolding decimal
decimal_more x h = rw (le-ltb x 10 h) (ap (λ (l : List ℕ). l ++ ((48 + x % 10) ∷ [])) (fuel x (suc (x / 10)) (x / 10) (omega arith) (omega arith)))

-- how many they are
pub width_one : (x : ℕ) → x < 10 → length (decimal x) ≡ 1
width_one x h = ap length (decimal_one x h)

pub width_more : (x : ℕ) → 10 ≤ x → length (decimal x) ≡ 1 + length (decimal (x / 10))
width_more x h = ap length (decimal_more x h) ∙ omega (arith, length-append (decimal (x / 10)) ((48 + x % 10) ∷ []))

-- no more than hold the number
pub width_most : (k x : ℕ) → x < 10 ^ suc k → length (decimal x) ≤ suc k
width_most zero x h = omega (arith, width_one x (omega arith))
width_most (suc k) x h =
    cases x 10 (λ s. omega (arith, width_one x s)) (λ b. omega (arith, width_more x b, width_most k (x / 10) (omega arith)))

-- .. exactly, by the powers of ten beside it
pub width_is : (k x : ℕ) → 10 ^ k ≤ max x 1 → max x 1 < 10 * 10 ^ k → length (decimal x) ≡ k + 1
width_is zero x h g = width_one x (omega arith)
width_is (suc k) x h g = omega (arith, width_more x (omega arith), width_is k (x / 10) (omega arith) (omega arith))
