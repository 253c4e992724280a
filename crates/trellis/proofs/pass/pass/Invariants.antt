-- `trellis::pass::pass` meets its contract: it is made of steps, and scan 0 answers.
use Rattle.std.proofs.Common.{◌≡◌, ◌-◌, length}
use Rattle.checks.specs.Given.{table_in}
use Rattle.trellis.specs.Square.{Sixteen}
use Rattle.trellis.specs.Made.{SteppedTo}
use Rattle.trellis.proofs.pass.pass.Given as goal

-- the scans from i on are stepped
abbrev pub invariant-loop-i : goal.invariant-loop-i
invariant-loop-i l = record {
  keys_long : length l.keys ≡ 16;
  sixteen : Sixteen l.rate_square × Sixteen l.counted_square;
  steps : SteppedTo (table_in l.t) l.rule l.initial.scratch (l.i - 1) l.keys l.scratch;
}
