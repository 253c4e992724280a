-- `octets::halves::with_half` meets its contract: a shift and a mask replace half a byte.
use native.Mathlib.Omega.{arith}
use Rattle.octets.proofs.HalfLaws.{low_stored, high_stored}
use Rattle.octets.proofs.halves.with_half.Goals as goal

pub returns-then-k-eq0 : goal.returns-then-k-eq0
returns-then-k-eq0 c = low_stored c.args.b c.args.k c.args.v (omega arith) c.requires c.if-k-eq0.true

pub returns : goal.returns
returns c = high_stored c.args.b c.args.k c.args.v c.requires c.if-k-eq0.false
