-- The bytes' `put_each` is safe: a part has at most 64 bytes, and the text room for two digits each.
use Rattle.std.proofs.Common.{◌≤◌, length}
use Rattle.shown.proofs.lent.U8Cell.put_each.Given as goal

abbrev pub invariant-loop-i : goal.invariant-loop-i
invariant-loop-i g l = length l.part ≤ 64
