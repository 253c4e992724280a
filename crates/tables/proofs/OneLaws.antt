-- Where every weight is 1, what counts of a cell is the cell. Assumes nothing.
use mathlib.Core.Path.{◌≡◌, refl, ap₂}
use mathlib.Core.List.{List, [], ◌∷◌}
use Prim.Native.Nat.{ℕ, suc, ◌+◌, ◌*◌, ◌≤◌}
use native.Mathlib.Nat.{one-mul}
use native.Mathlib.Omega.{arith}
use lib.ListN.{length}
use Rattle.tables.specs.Series.{total}
use Rattle.tables.specs.Tables.{Table, distortion_at, weight_at, series, AllOne}

-- so the distortion of a sequence that ends with the table is the sum of its plain cells
pub total_ones : (t : Table) → AllOne t.weights → (i p : ℕ) (s : List ℕ) → i + length s ≤ length t.weights →
    total (series t).distortion i p s ≡ total (distortion_at t) i p s
total_ones t ones i p [] h = refl
total_ones t ones i p (q ∷ s) h = ap₂ ◌+◌ counts (total_ones t ones (suc i) q s (omega arith))
  where
    counts : weight_at t i * distortion_at t i p q ≡ distortion_at t i p q
    counts = rw (ones i (omega arith)) (one-mul (distortion_at t i p q))
