-- Numbers in their range. Assumes nothing.
use mathlib.Core.Path.{◌≡◌, refl}
use mathlib.Core.Bool.{false}
use Prim.Native.Nat.{ℕ, ◌≤◌}
use native.Mathlib.Omega.{arith}
use lib.Dec.{ltb, eqb}
use borrow.Author.Tests.{ltb-false, eqb-false, le-ltb, ne_eqb}
use Rattle.checks.specs.Checks.{zero_or_over}
use Rattle.laws.proofs.Tests.{neither}

-- "is 0 or over": what is known of a number that is not
pub in_range : {most x : ℕ} → zero_or_over most x ≡ false → (1 ≤ x) × (x ≤ most)
unfolding zero_or_over
in_range {most} {x} e =
    let b = neither (eqb x 0) (ltb most x) e in
    let n = eqb-false x 0 b.0 in
    (omega arith, ltb-false most x b.1)

pub passes_range : {most x : ℕ} → 1 ≤ x → x ≤ most → zero_or_over most x ≡ false
unfolding zero_or_over
passes_range {most} {x} a b = rw (ne_eqb x 0 (λ e. omega arith), le-ltb most x b) refl
