-- `shown::input::read_full` meets its contract and ends: each read that is not the last takes a byte, and no more than are left.
use Rattle.std.proofs.Common.{◌-◌, ◌≤◌, length}
use Rattle.shown.proofs.input.read_full.Given as goal

abbrev pub invariant-loop-done : goal.invariant-loop-done
invariant-loop-done g l = l.done ≤ length l.bytes

abbrev pub decreases-loop-done : goal.decreases-loop-done
decreases-loop-done g l = length l.bytes - l.done
