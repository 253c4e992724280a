-- `best::trace::retrace` meets its contract. The loop's invariant: the settings before scan i are stored, the choices from scan i on lead to the
-- rest of the sequence, and what is left is enough for it.
use mathlib.Core.Path.{◌≡◌}
use Prim.Native.Nat.{◌*◌, ◌≤◌}
use Rattle.best.proofs.TraceLaws.{Along}
use Rattle.best.proofs.trace.retrace.Given as goal

abbrev pub invariant-loop-i : goal.invariant-loop-i
invariant-loop-i l = (l.i ≤ l.t.scans) × ((l.size ≡ l.t.settings * l.width) × Along l.t.scans l.t.settings l.width l.left l.t.rates.now l.initial.choices l.choices l.p l.b l.i)
