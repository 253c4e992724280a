-- What a call borrows is small, and holds what a pass borrows. Assumes nothing.
use Prim.Native.Nat.{ℕ, ◌+◌, ◌*◌, ◌≤◌}
use native.Mathlib.Nat.{mul-le-mul_left, mul-le-mul_right}
use native.Mathlib.Omega.{arith}
use Rattle.tables.specs.Limits.{most_settings, most_short_scans, most_short_budget}
use Rattle.tables.specs.Tables.{scratch_need}
use Rattle.tables.proofs.CellLaws.{need_is}
use Rattle.best.specs.Best.{scan_need, choices_need}

pub scan_small : {Q B : ℕ} → Q ≤ most_settings → B ≤ most_short_budget → scan_need Q B ≤ 65536
scan_small {Q} {B} h g = omega (arith, mul-le-mul_left {m = B + 1} {n = 4096} Q (omega arith), mul-le-mul_right {m = Q} {n = 16} 4096 h)

pub choices_small : {N Q B : ℕ} → N ≤ most_short_scans → Q ≤ most_settings → B ≤ most_short_budget → choices_need N Q B ≤ 4194304
choices_small {N} {Q} {B} n h g = omega (arith, mul-le-mul_left {m = scan_need Q B} {n = 65536} N (scan_small h g), mul-le-mul_right {m = N} {n = 64} 65536 n)

-- the choices of a pass up to scan i stand before those of scan i here
pub pass_before : (i Q w : ℕ) → 1 ≤ w → scratch_need i Q ≤ i * (Q * w)
pass_before i Q w h = omega (arith, need_is i Q, mul-le-mul_left {m = Q} {n = Q * w} i (omega (arith, mul-le-mul_left {m = 1} {n = w} Q h)))
