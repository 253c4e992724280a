-- The decimal digits of a number, read again. Assumes nothing.
use mathlib.Core.Path.{◌≡◌, refl, sym}
use mathlib.Core.Logic.{◌≢◌}
use mathlib.Core.Bool.{Bool, true, false, cond}
use mathlib.Core.Option.{some}
use mathlib.Core.List.{List, [], ◌∷◌, ◌++◌}
use Prim.Native.Nat.{ℕ, zero, suc, ◌+◌, ◌*◌, ◌-◌, ◌/◌, ◌%◌, ◌<◌}
use native.Mathlib.Omega.{arith}
use lib.Dec.{ltb}
use lib.ListN.{get_or}
use borrow.Author.Tests.{ltb-true, ltb-false, le-leb}
use Rattle.laws.proofs.Tests.{both, cases}
use Rattle.reading.specs.Text.{digit}
use Rattle.lines.specs.Text.{content, all_digits, number}
use Rattle.lines.proofs.ContentLaws.{Writes, writes_more, written, no_quote, content_plain}
use Rattle.reading.proofs.WordLaws.{digit_bounds}
use Rattle.exports.specs.Export.{decimal_of, decimal}
use Rattle.exports.proofs.DecimalLaws.{width_one, width_more, width_most}

digit_of : (d : ℕ) → d < 10 → digit (48 + d) ≡ true
digit_of d h = rw (le-leb 48 (48 + d) (omega arith), le-leb (48 + d) 57 (omega arith)) refl

-- the digits of a number write it
decimal_of_writes : (k x : ℕ) → x < k → Writes (decimal_of k x) x
decimal_of_writes zero x h = absurd (omega arith)
decimal_of_writes (suc k) x h = of (ltb x 10) refl (decimal_of_writes k (x / 10))
  where
    of : (b : Bool) → ltb x 10 ≡ b → (x / 10 < k → Writes (decimal_of k (x / 10)) (x / 10)) →
        Writes (cond b ((48 + x) ∷ []) (decimal_of k (x / 10) ++ ((48 + x % 10) ∷ []))) x
    of true e rest =
        let v : 10 * 0 + (48 + x - 48) ≡ x = omega arith in
        rw v at (writes_more {c = []} (48 + x) (record { digits = refl; value = refl }) (digit_of x (ltb-true x 10 e)))
    of false e rest =
        let l = ltb-false x 10 e in
        let v : 10 * (x / 10) + (48 + x % 10 - 48) ≡ x = omega arith in
        rw v at (writes_more (48 + x % 10) (rest (omega arith)) (digit_of (x % 10) (omega arith)))

pub decimal_writes : (x : ℕ) → Writes (decimal x) x
unfolding decimal
decimal_writes x = decimal_of_writes (suc x) x (omega arith)

-- read again, they are the number
pub number_decimal : (x : ℕ) → x < 10000000 → number (decimal x) ≡ some x
number_decimal x h =
    sym (written (decimal_writes x) (λ z. cases x 10 (λ s. omega (arith, width_one x s)) (λ b. omega (arith, width_more x b))) (width_most 6 x (omega arith)))

-- and they have no quotes
digits_first : (l : List ℕ) → all_digits l ≡ true → get_or l 0 0 ≢ 34
digits_first [] e z = omega arith
digits_first (c ∷ l) e z = let d = digit_bounds c (both (digit c) (all_digits l) e).0 in omega arith

pub content_decimal : (x : ℕ) → content (decimal x) ≡ decimal x
content_decimal x = sym (content_plain (decimal x) (no_quote (decimal x) (digits_first (decimal x) (decimal_writes x).digits)))
