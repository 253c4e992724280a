-- The sizes of a table within document 01's limits. Assumes nothing.
use mathlib.Core.Path.{◌≡◌, refl}
use Prim.Native.Nat.{ℕ, zero, suc, ◌+◌, ◌-◌, ◌*◌, ◌/◌, ◌≤◌, ◌<◌}
use native.Mathlib.Nat.{mul-le-mul_left, mul-le-mul_right}
use native.Mathlib.Omega.{arith}
use lib.Arith.{digits_div}
use borrow.Author.Tests.{lt-ltb, le-ltb}
use Rattle.laws.proofs.Lists.{part_inside}
use Rattle.tables.specs.Limits.{most_scans, most_settings, most_channels}
use Rattle.tables.specs.Tables.{cells, cell, scan_start, scan_of, scratch_need}

pub product_small : {a b : ℕ} (m : ℕ) → a ≤ m → b ≤ most_settings → a * b ≤ m * 16
product_small {a} {b} m h g = omega (arith, mul-le-mul_left a g, mul-le-mul_right {m = a} {n = m} 16 h)

pub square_small : {Q : ℕ} → Q ≤ most_settings → Q * Q ≤ 256
square_small h = product_small 16 h h

-- the cells of i squares
pub squares_small : {i Q : ℕ} → i ≤ 1023 → Q ≤ most_settings → i * (Q * Q) ≤ 261888
squares_small {i} {Q} h g = omega (arith, mul-le-mul_left {m = Q * Q} {n = 256} i (square_small g), mul-le-mul_right {m = i} {n = 1023} 256 h)

-- "at the limits 261,904"
pub cells_small : {N Q : ℕ} → N ≤ most_scans → Q ≤ most_settings → cells N Q ≤ 261904
cells_small {N} {Q} h g = omega (arith, squares_small {i = N - 1} {Q = Q} (omega arith) g)

-- a later scan's cell, counted from its scan
pub later_cell : (Q i p q : ℕ) → (i ≡ 0 → ⊥) → Q + (i - 1) * (Q * Q) + p * Q + q ≡ cell Q i p q
later_cell Q zero p q h = absurd (h refl)
later_cell Q (suc i) p q h = let e : suc i - 1 ≡ i = omega arith in rw e

-- what the room question multiplies
pub bytes_small : {C k : ℕ} → C ≤ most_channels → k ≤ 261904 → 4 * C * k ≤ 1098516004864
bytes_small {C} {k} h g = omega (arith, mul-le-mul_left {m = k} {n = 261904} (4 * C) g)

-- a scan's cell is one of the table's
pub cell_inside : (N Q i p q : ℕ) → i < N → p < Q → q < Q → cell Q i p q < cells N Q
cell_inside N Q zero p q h l m = omega arith
cell_inside N Q (suc i) p q h l m =
    omega (arith, part_inside Q {j = p} {m = Q} l, part_inside (Q * Q) {j = i} {m = N - 1} (omega arith))

-- the scratch of a call is a product, and small
pub need_is : (N Q : ℕ) → N * Q ≡ scratch_need N Q
unfolding scratch_need
need_is N Q = refl

pub need_small : {N Q : ℕ} → N ≤ most_scans → Q ≤ most_settings → N * Q ≤ 16384
need_small h g = product_small 1024 h g

-- the cells of a scan lie between
pub scan_in_run : (Q i k : ℕ) → scan_start Q i ≤ k → k < scan_start Q (suc i) → scan_of Q k ≡ i
unfolding scan_of
scan_in_run Q zero k h g = rw (lt-ltb k Q (omega arith)) refl
scan_in_run Q (suc i) k h g =
    let e : k - Q ≡ i * (Q * Q) + (k - (Q + i * (Q * Q))) = omega arith in
    let d : (i * (Q * Q) + (k - (Q + i * (Q * Q)))) / (Q * Q) ≡ i = digits_div i (omega arith) in
    rw (le-ltb k Q (omega arith), e, d) (omega arith)

pub cell_in_scan : (Q i p q : ℕ) → p < Q → q < Q → (scan_start Q i ≤ cell Q i p q) × (cell Q i p q < scan_start Q (suc i))
cell_in_scan Q zero p q h g = (omega arith, omega arith)
cell_in_scan Q (suc i) p q h g = (omega arith, omega (arith, part_inside Q {j = p} {m = Q} h))

pub scan_of_cell : (Q i p q : ℕ) → p < Q → q < Q → scan_of Q (cell Q i p q) ≡ i
scan_of_cell Q i p q h g = let b = cell_in_scan Q i p q h g in scan_in_run Q i (cell Q i p q) b.0 b.1

-- a table ends where the scan after its last would start
pub scans_end : (N Q : ℕ) → 1 ≤ N → scan_start Q N ≡ cells N Q
scans_end zero Q h = absurd (omega arith)
scans_end (suc n) Q h = let e : suc n - 1 ≡ n = omega arith in rw e refl

-- a scan of a table ends within it
pub scan_inside : (N Q i : ℕ) → i < N → (scan_start Q i ≤ scan_start Q (suc i)) × (scan_start Q (suc i) ≤ cells N Q)
scan_inside N Q zero h = (omega arith, omega arith)
scan_inside N Q (suc i) h = (omega arith, omega (arith, mul-le-mul_right {m = suc i} {n = N - 1} (Q * Q) (omega arith)))
