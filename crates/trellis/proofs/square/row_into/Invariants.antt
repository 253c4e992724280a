-- `trellis::square::row_into` meets its contract: every cell passed is stored, closed, and so is what counts beside it.
use Rattle.std.proofs.Common.{◌≡◌, ℕ, ◌+◌, ◌<◌, get_or, length}
use Rattle.trellis.specs.Square.{closed_cell, counted_cell}
use Rattle.trellis.proofs.square.row_into.Given as goal

abbrev pub invariant-loop-q : goal.invariant-loop-q
invariant-loop-q l = record {
  long : (length l.row ≡ 16) × (length l.counts ≡ 16);
  rates : (r : ℕ) → r < l.q → get_or l.row r 0 ≡ closed_cell l.ceiling l.cells.rates.now l.cells.distortions.now (l.cells.from + r);
  counts : (r : ℕ) → r < l.q → get_or l.counts r 0 ≡ counted_cell l.cells.weight l.ceiling l.cells.rates.now l.cells.distortions.now (l.cells.from + r);
}
