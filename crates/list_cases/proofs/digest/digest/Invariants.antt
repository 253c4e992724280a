-- `list_cases::digest::digest` is safe: the digest keeps below its modulus.
use Rattle.std.proofs.Common.{◌<◌}
use Rattle.list_cases.proofs.digest.digest.Given as goal

abbrev pub invariant-loop-y : goal.invariant-loop-y
invariant-loop-y g l = l.x < 4294967311
