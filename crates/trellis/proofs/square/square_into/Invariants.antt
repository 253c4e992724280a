-- `trellis::square::square_into` meets its contract: every row passed is the table's, closed, and so is what counts.
use Rattle.std.proofs.Common.{◌≡◌, [], ℕ, ◌+◌, ◌*◌, ◌<◌, get_or}
use Rattle.trellis.specs.Square.{Sixteen, closed_cell, counted_cell}
use Rattle.trellis.proofs.square.square_into.Given as goal

abbrev pub invariant-loop-p : goal.invariant-loop-p
invariant-loop-p l = record {
  sixteen : Sixteen l.square × Sixteen l.counts;
  rates : (r : ℕ) → r < l.p → (q : ℕ) → q < l.k → get_or (get_or l.square r []) q 0
      ≡ closed_cell l.ceiling l.cells.rates.now l.cells.distortions.now (l.cells.from + r * l.k + q);
  counts : (r : ℕ) → r < l.p → (q : ℕ) → q < l.k → get_or (get_or l.counts r []) q 0
      ≡ counted_cell l.cells.weight l.ceiling l.cells.rates.now l.cells.distortions.now (l.cells.from + r * l.k + q);
}
