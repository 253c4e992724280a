-- `best::trace::least_left` meets its contract. The loop's invariant: no total before b is as low as the last.
use mathlib.Core.Path.{◌≡◌}
use Prim.Native.Nat.{ℕ, ◌+◌, ◌-◌, ◌<◌}
use lib.ListN.{get_or}
use Rattle.best.proofs.trace.least_left.Given as goal

abbrev pub invariant-loop-b : goal.invariant-loop-b
invariant-loop-b l = (j : ℕ) → j < l.b → get_or l.cells (l.row + j) 0 ≡ get_or l.cells (l.row + (l.width - 1)) 0 → ⊥
