-- `telling::put_values` meets its contract: value behind value.
use Rattle.std.proofs.Common.{◌≡◌, take}
use lib.Seq.{sets}
use Rattle.telling.specs.Told.{eights}
use Rattle.telling.proofs.put_values.Given as goal

abbrev pub invariant-loop-i : goal.invariant-loop-i
invariant-loop-i l = l.answer ≡ sets l.initial.answer 0 (eights (take l.i l.values))
